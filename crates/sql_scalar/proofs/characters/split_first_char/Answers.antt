use Rattle.std.proofs.Common.{◌≡◌, ◌++◌, sym, ap, ◌∙◌, length}
use Rattle.std.specs.Char.{encode_utf8}
use Rattle.sql_scalar.proofs.CharSteps.{first_char, no_char}
use Rattle.sql_scalar.proofs.characters.split_first_char.Goals as goal

pub returns-in-Some : goal.returns-in-Some
returns-in-Some c =
    let split : c.args.text.now ≡ encode_utf8 c.in-Some.first ++ c.as_str.result.now =
    sym c.chars-rest.ensures.rest ∙ c.in-Some.ensures.steps.0 ∙ ap (λ rest. encode_utf8 c.in-Some.first ++ rest) (sym c.as_str.ensures) in
    first_char c.args.text.now c.as_str.result.now c.in-Some.first c.utf8.text split

pub returns-in-None : goal.returns-in-None
returns-in-None c = no_char c.args.text.now (sym (ap length c.chars-rest.ensures.rest) ∙ c.in-None.ensures.steps.0.0)
