use Rattle.std.proofs.Common.{true, false, ap, ◌∙◌}
use Rattle.sql_faults.specs.Calls.{name_of as token_name}
use Rattle.sql_parser.proofs.SelectArms.{is_name_at, a_name, no_name}
use Rattle.sql_parser.proofs.clauses.name.Goals as goal

pub returns-then-not-is_name_kind : goal.returns-then-not-is_name_kind
returns-then-not-is_name_kind c =
    no_name c.args.reader.now (is_name_at c.args.reader.now false c.peek-token.ensures c.is_name_kind.ensures c.if-not-is_name_kind.true)

pub returns : goal.returns
returns c =
    a_name c.args.reader.now c.advance.new.self c.name_of.result (is_name_at c.args.reader.now true c.peek-token.ensures c.is_name_kind.ensures c.if-not-is_name_kind.false) c.advance.ensures (c.name_of.ensures ∙ ap token_name c.peek-token.ensures)
