use Rattle.std.proofs.Common.{◌≡◌, ◌++◌, ◌∷◌, ℕ, List, length}
use denote.Text.{Utf8}
use denote.Shadow.{shadow}
use Rattle.std.specs.Str.{chars}
use Rattle.sql_scalar.specs.Likeness.{is_like, somewhere}
use Rattle.sql_scalar.specs.Pieces.{IsEnd}
use Rattle.sql_scalar.proofs.pieces.behind_fitting.Given as goal

abbrev pub invariant-loop-behind : goal.invariant-loop-behind
invariant-loop-behind l = record {
  from_text : shadow (Utf8 l.from);
  kept : (others : List ℕ) → somewhere (is_like (chars l.fn.piece ++ 37 ∷ others)) (chars l.fn.text)
      ≡ somewhere (is_like (chars l.fn.piece ++ 37 ∷ others)) (chars l.from);
  end : IsEnd (chars l.fn.text) (chars l.from);
}

abbrev pub decreases-loop-behind : goal.decreases-loop-behind
decreases-loop-behind l = length l.from
