use Rattle.std.proofs.lemmas.Result.{err_from_is_err_and}
use Rattle.std.proofs.Common.{true, false, ap, ◌∙◌, refl}
use Rattle.sql_faults.specs.Calls.{name_of as token_name}
use Rattle.sql_parser.proofs.Arms.{kind_at, kind_not}
use Rattle.sql_parser.proofs.SelectArms.{is_name_at, alias_alone, no_alias, alias_with_as, stopped_alias}
use Rattle.sql_parser.proofs.clauses.alias.Goals as goal

pub returns-then-is_name_kind : goal.returns-then-is_name_kind
returns-then-is_name_kind c =
    alias_alone c.args.reader.now c.advance.new.self c.name_of.result (is_name_at c.args.reader.now true c.peek-token.ensures c.is_name_kind.ensures c.if-is_name_kind.true) c.advance.ensures (c.name_of.ensures ∙ ap token_name c.peek-token.ensures)

pub returns-in_default : goal.returns-in_default
returns-in_default c =
    no_alias c.args.reader.now c.args.reader.now (is_name_at c.args.reader.now false c.peek-token.ensures c.is_name_kind.ensures c.if-is_name_kind.false) (kind_not c.args.reader.now c.peek-token.ensures c.in_default.not-As) refl

pub returns-in_err-alias : goal.returns-in_err-alias
returns-in_err-alias c =
    let p = err_from_is_err_and c.from_residual.result c.from_residual.ensures.1 in
    rw (p.1, p.2) (stopped_alias c.args.reader.now c.advance-2.new.self c.in_err-alias.field-0.0 (kind_at c.args.reader.now c.peek-token.ensures c.in-As.is) c.advance-2.ensures c.in_err-alias.ensures)

pub returns : goal.returns
returns c =
    alias_with_as c.args.reader.now c.advance-2.new.self c.name.new.reader c.in_ok-alias.alias (kind_at c.args.reader.now c.peek-token.ensures c.in-As.is) c.advance-2.ensures c.in_ok-alias.ensures
