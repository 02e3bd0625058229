use Rattle.std.proofs.Common.{◌≡◌, length}
use denote.Text.{Utf8}
use denote.Shadow.{shadow}
use Rattle.std.specs.Str.{chars}
use Rattle.sql_scalar.specs.Pieces.{behind}
use Rattle.sql_scalar.proofs.pieces.behind_piece.Given as goal

abbrev pub invariant-loop-sign : goal.invariant-loop-sign
invariant-loop-sign l = record {
  signs_text : shadow (Utf8 l.signs);
  rest_text : shadow (Utf8 l.rest);
  kept : behind (chars l.fn.piece) (chars l.fn.text) ≡ behind (chars l.signs) (chars l.rest);
}

abbrev pub decreases-loop-sign : goal.decreases-loop-sign
decreases-loop-sign l = length l.signs
