use Rattle.std.proofs.Common.{◌≡◌, true, length}
use denote.Text.{Utf8}
use denote.Shadow.{shadow}
use Rattle.std.specs.Str.{chars}
use Rattle.sql_scalar.specs.Likeness.{is_like, somewhere}
use Rattle.sql_scalar.specs.Pieces.{IsLower}
use Rattle.sql_scalar.proofs.like.fits_in_turn.Given as goal

abbrev pub invariant-loop-piece : goal.invariant-loop-piece
invariant-loop-piece l = record {
  signs_text : shadow (Utf8 l.signs);
  rest_text : shadow (Utf8 l.rest);
  kept : somewhere (is_like (chars l.fn.pattern)) (chars l.fn.text) ≡ somewhere (is_like (chars l.signs)) (chars l.rest);
  signs_lower : l.fn.is_lower ≡ true → IsLower (chars l.signs);
  rest_lower : l.fn.is_lower ≡ true → IsLower (chars l.rest);
}

abbrev pub decreases-loop-piece : goal.decreases-loop-piece
decreases-loop-piece l = length l.signs
