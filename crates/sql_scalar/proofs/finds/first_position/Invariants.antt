use Rattle.std.proofs.Common.{◌≡◌, ◌+◌, ◌≤◌, length}
use denote.Text.{Utf8}
use denote.Shadow.{shadow}
use Rattle.std.specs.Str.{chars}
use Rattle.sql_scalar.specs.Finds.{first_position}
use Rattle.sql_scalar.proofs.finds.first_position.Given as goal

abbrev pub invariant-loop-tail : goal.invariant-loop-tail
invariant-loop-tail l = record {
  text : shadow (Utf8 l.rest);
  so_far : first_position (chars l.fn.wanted) 1 (chars l.fn.text) ≡ first_position (chars l.fn.wanted) l.position (chars l.rest);
  small : l.position + length l.rest ≤ length l.fn.text + 1;
}

abbrev pub decreases-loop-tail : goal.decreases-loop-tail
decreases-loop-tail l = length l.rest
