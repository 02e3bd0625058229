use Rattle.std.proofs.Common.{◌≡◌, length}
use denote.Text.{Utf8}
use denote.Shadow.{shadow}
use Rattle.std.specs.Str.{chars}
use Rattle.sql_scalar.specs.Likeness.{is_like, somewhere}
use Rattle.sql_scalar.specs.Pieces.{Lacks}
use Rattle.sql_scalar.proofs.pieces.fits_end.Given as goal

abbrev pub invariant-loop-others : goal.invariant-loop-others
invariant-loop-others l = record {
  signs_text : shadow (Utf8 l.signs);
  rest_text : shadow (Utf8 l.rest);
  kept : somewhere (is_like (chars l.fn.piece)) (chars l.fn.text) ≡ somewhere (is_like (chars l.signs)) (chars l.rest);
  plain : Lacks 37 (chars l.signs);
}

abbrev pub decreases-loop-others : goal.decreases-loop-others
decreases-loop-others l = length l.signs
