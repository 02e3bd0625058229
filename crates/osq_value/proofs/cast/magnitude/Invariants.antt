use Rattle.std.proofs.Common.{◌≡◌, ◌-◌, ◌^◌, ◌≤◌, min, length}
use Rattle.osq_value.specs.Casts.{front_value, front_digits}
use Rattle.osq_value.specs.Spelling.{value_from}
use Rattle.osq_value.proofs.cast.magnitude.Given as goal

abbrev pub invariant-loop-first : goal.invariant-loop-first
invariant-loop-first l = record {
  kept : min (front_value l.fn.text) (2 ^ 64 - 1) ≡ min (value_from l.number (front_digits l.rest)) (2 ^ 64 - 1);
  capped : l.number ≤ 2 ^ 64 - 1;
}

abbrev pub decreases-loop-first : goal.decreases-loop-first
decreases-loop-first l = length l.rest
