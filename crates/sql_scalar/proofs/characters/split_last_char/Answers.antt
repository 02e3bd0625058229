use Rattle.std.proofs.Common.{◌++◌, sym, ap, ◌∙◌, length}
use Rattle.std.specs.Char.{encode_utf8}
use Rattle.sql_scalar.proofs.CharSteps.{last_char, no_char}
use Rattle.sql_scalar.proofs.characters.split_last_char.Goals as goal

pub returns-in-Some : goal.returns-in-Some
returns-in-Some c =
    last_char c.args.text.now c.as_str.result.now c.in-Some.last c.utf8.text c.as_str.utf8
    (sym c.chars-rest.ensures.rest ∙ c.in-Some.ensures.steps ∙ ap (λ rest. rest ++ encode_utf8 c.in-Some.last) (sym c.as_str.ensures))

pub returns-in-None : goal.returns-in-None
returns-in-None c = no_char c.args.text.now (sym (ap length c.chars-rest.ensures.rest) ∙ c.in-None.ensures.steps.0)
