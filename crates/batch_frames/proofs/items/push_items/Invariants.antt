use Rattle.std.proofs.Common.{◌≡◌, ◌++◌, map, take}
use Rattle.result_batches.specs.Json.{each_behind_comma}
use Rattle.batch_frames.proofs.items.push_items.Given as goal

abbrev pub invariant-loop-item : goal.invariant-loop-item
invariant-loop-item g l = l.line ≡ l.initial.line ++ each_behind_comma (map g.T.Spelled.text (take l.item-index l.rest))
