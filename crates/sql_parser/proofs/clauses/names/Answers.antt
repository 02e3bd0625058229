use Rattle.std.proofs.lemmas.Result.{err_from_is_err_and}
use Rattle.sql_parser.proofs.Arms.{kind_at, kind_not}
use Rattle.sql_parser.proofs.SelectArms.{a_names, no_names, stopped_names, unclosed_names}
use Rattle.sql_parser.proofs.clauses.names.Goals as goal

pub returns-in_default : goal.returns-in_default
returns-in_default c =
    no_names c.args.reader.now (kind_not c.args.reader.now c.peek.ensures c.in_default.not-Open)

pub returns-in_err-names : goal.returns-in_err-names
returns-in_err-names c =
    let p = err_from_is_err_and c.from_residual.result c.from_residual.ensures.1 in
    rw (p.1, p.2) (stopped_names c.args.reader.now c.advance.new.self c.in_err-names.field-0.0 (kind_at c.args.reader.now c.peek.ensures c.in-Open.is) c.advance.ensures c.in_err-names.ensures)

pub returns-in_default-kind : goal.returns-in_default-kind
returns-in_default-kind c =
    unclosed_names c.args.reader.now c.advance.new.self c.name_list.new.reader c.in_ok-names.names (kind_at c.args.reader.now c.peek.ensures c.in-Open.is) c.advance.ensures c.in_ok-names.ensures (kind_not c.name_list.new.reader c.peek-2.ensures c.in_default-kind.not-Close)

pub returns : goal.returns
returns c =
    a_names c.args.reader.now c.advance.new.self c.name_list.new.reader c.advance-2.new.self c.in_ok-names.names (kind_at c.args.reader.now c.peek.ensures c.in-Open.is) c.advance.ensures c.in_ok-names.ensures (kind_at c.name_list.new.reader c.peek-2.ensures c.in-Close.is) c.advance-2.ensures
