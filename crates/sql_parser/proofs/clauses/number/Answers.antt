use Rattle.sql_tokens.specs.declared.token.Kind.TheVariants as kind
use Rattle.std.proofs.Common.{rules, w64, FitsSigned, ap, ◌∙◌}
use Rattle.std.proofs.lemmas.Int.{to_z-of_z}
use Rattle.sql_parser.proofs.Arms.{kind_at, kind_not}
use Rattle.sql_parser.proofs.SelectArms.{a_number, wide_number, no_number}
use Rattle.sql_parser.proofs.clauses.number.Goals as goal

pub returns-in_default : goal.returns-in_default
returns-in_default c =
    no_number c.args.reader.now (λ v. kind_not c.args.reader.now c.peek.ensures (c.in_default.not-Number v))

pub returns-in-Some : goal.returns-in-Some
returns-in-Some c =
    let fits : FitsSigned w64 c.in-Some.number = search rules in
    rw (to_z-of_z w64 c.in-Some.number fits) (a_number c.args.reader.now c.advance.new.self c.in-Some.number (kind_at c.args.reader.now c.peek.ensures (c.in-Number.is ∙ ap kind.Number c.in-Some.is)) c.advance.ensures)

pub returns-in-None : goal.returns-in-None
returns-in-None c =
    wide_number c.args.reader.now (kind_at c.args.reader.now c.peek.ensures (c.in-Number.is ∙ ap kind.Number c.in-None.is))
