use Rattle.std.proofs.Common.{◌≡◌, ◌+◌, ◌≤◌, take}
use Rattle.event_store.proofs.segment.shared.Given as goal

abbrev pub invariant-loop-part : goal.invariant-loop-part
invariant-loop-part g l = record {
  all : l.all.items ≡ take l.part-index l.parts;
  steps : l.steps ≤ l.initial.steps + l.part-index;
}
