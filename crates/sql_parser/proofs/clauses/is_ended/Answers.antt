use Rattle.sql_parser.proofs.Arms.{kind_at, kind_not}
use Rattle.std.proofs.Common.{ap, ◌∙◌}
use Rattle.sql_tokens.specs.declared.token.Token.{Token}
use Rattle.sql_tokens.specs.Tokens.{is_end}
use Rattle.sql_parser.proofs.Whole.{told_behind, told_here}
use Rattle.sql_parser.proofs.clauses.is_ended.Goals as goal

pub returns-in-Semicolon : goal.returns-in-Semicolon
returns-in-Semicolon c =
    told_behind c.is_end_kind.result c.args.reader.now c.advance.new.self (kind_at c.args.reader.now c.peek-kind.ensures c.in-Semicolon.is) c.advance.ensures (c.is_end_kind.ensures ∙ ap (λ (t : Token). is_end t.kind) c.peek.ensures)

pub returns-in_default : goal.returns-in_default
returns-in_default c =
    told_here c.is_end_kind-in_default.result c.args.reader.now (kind_not c.args.reader.now c.peek-kind.ensures c.in_default.not-Semicolon) (c.is_end_kind-in_default.ensures ∙ ap (λ (t : Token). is_end t.kind) c.peek-kind.ensures)
