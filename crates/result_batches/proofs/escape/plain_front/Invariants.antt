use Rattle.std.proofs.Common.{◌≡◌, take}
use Rattle.std.specs.Prelude.{flat_map}
use Rattle.result_batches.specs.Json.{escaped}
use Rattle.result_batches.proofs.escape.plain_front.Given as goal

abbrev pub invariant-loop-at : goal.invariant-loop-at
invariant-loop-at l = flat_map escaped (take l.at l.text) ≡ take l.at l.text
