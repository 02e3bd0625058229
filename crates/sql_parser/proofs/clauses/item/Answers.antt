use Rattle.std.proofs.Common.{ap, ◌∙◌, sym}
use Rattle.sql_tokens.specs.declared.token.Token.{Token}
use Rattle.sql_tokens.specs.Tokens.{after}
use Rattle.sql_faults.specs.Calls.{name_of as token_name}
use Rattle.sql_tree.specs.Select.{item_of, all, all_of}
use Rattle.sql_parser.proofs.Arms.{kind_at, kind_not}
use Rattle.sql_parser.proofs.SelectArms.{an_all_of, an_all, an_other_item}
use Rattle.sql_parser.proofs.clauses.item.Goals as goal

pub returns-then-is_at_all_of : goal.returns-then-is_at_all_of
returns-then-is_at_all_of c =
    an_all_of c.args.reader.now c.advance-then-is_at_all_of-2.new.self _ (sym c.is_at_all_of.ensures ∙ c.if-is_at_all_of.true) (c.advance-then-is_at_all_of-2.ensures ∙ ap after (c.advance-then-is_at_all_of.ensures ∙ ap after c.advance.ensures)) (ap all_of (c.name_of.ensures ∙ ap token_name c.peek-token.ensures))

pub returns-in-Star : goal.returns-in-Star
returns-in-Star c =
    an_all c.args.reader.now c.advance-in-Star.new.self _ (sym c.is_at_all_of.ensures ∙ c.if-is_at_all_of.false) (kind_at c.args.reader.now c.peek-token.ensures c.in-Star.is) c.advance-in-Star.ensures (ap (λ (x : Token). all x.span.start) c.peek-token.ensures)

pub returns-in_default : goal.returns-in_default
returns-in_default c =
    an_other_item item_of c.args.reader.now c.expression_item.new.reader c.expression_item.result (sym c.is_at_all_of.ensures ∙ c.if-is_at_all_of.false) (kind_not c.args.reader.now c.peek-token.ensures c.in_default.not-Star) c.expression_item.ensures
