use Rattle.std.proofs.Common.{◌∙◌}
use Rattle.sql_scalar.proofs.Lowering.{lower_chars, like_in_lower}
use Rattle.sql_scalar.proofs.like.fits_in_lower_case.Goals as goal

pub fits_in_turn-requires-clause-signs : goal.fits_in_turn-requires-clause-signs
fits_in_turn-requires-clause-signs c =
    λ is. lower_chars c.args.pattern.now c.as_str.result.now c.utf8.pattern c.as_str.utf8 (c.as_str.ensures.value ∙ c.in_ok-signs.ensures.ok)

pub fits_in_turn-requires-clause-characters : goal.fits_in_turn-requires-clause-characters
fits_in_turn-requires-clause-characters c =
    λ is. lower_chars c.args.text.now c.as_str-2.result.now c.utf8.text c.as_str-2.utf8 (c.as_str-2.ensures.value ∙ c.in_ok-characters.ensures.ok)

pub returns : goal.returns
returns c =
    c.fits_in_turn.ensures
    ∙ like_in_lower c.args.pattern.now c.args.text.now c.as_str.result.now c.as_str-2.result.now c.utf8.pattern c.utf8.text c.as_str.utf8
    c.as_str-2.utf8 (c.as_str.ensures.value ∙ c.in_ok-signs.ensures.ok) (c.as_str-2.ensures.value ∙ c.in_ok-characters.ensures.ok)
