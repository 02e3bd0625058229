use Rattle.std.proofs.Common.{◌∷◌, ap, subst, ◌∙◌, rules}
use Rattle.std.specs.Str.{chars}
use Rattle.sql_scalar.specs.Likeness.{is_like, somewhere}
use Rattle.sql_scalar.specs.Pieces.{IsLower}
use Rattle.sql_scalar.proofs.PieceFits.{lower_front, lower_end}
use Rattle.sql_scalar.proofs.like.fits_in_turn.Goals as goal

pub behind_first-requires-clause-signs : goal.behind_first-requires-clause-signs
behind_first-requires-clause-signs c =
    λ is. lower_front (chars c.in-Some.piece.now) (37 ∷ chars c.in-Some.others.now)
    (subst IsLower c.in-Some.ensures.0 (c.loop-piece.invariant.signs_lower is))

pub loop-piece-preserved : goal.loop-piece-preserved
loop-piece-preserved c =
    let split = c.in-Some.ensures.0 in
    let behind = c.in-Some-behind_first in
    let others = chars c.in-Some.others.now in
    let end = behind.ensures.1 in
    record {
      signs_text = search rules;
      rest_text = search rules;
      kept = c.loop-piece.invariant.kept ∙ ap (λ s. somewhere (is_like s) (chars c.loop-piece.rest.now)) split ∙ behind.ensures.0 others;
      signs_lower = λ is. (lower_end (chars c.in-Some.piece.now) (37 ∷ others) (subst IsLower split (c.loop-piece.invariant.signs_lower is))).1;
      rest_lower = λ is. lower_end end.0 (chars behind.behind.now) (subst IsLower end.1 (c.loop-piece.invariant.rest_lower is));
    }
