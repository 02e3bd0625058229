use Rattle.std.proofs.Common.{◌≡◌, ◌+◌, ◌≤◌, take}
use Rattle.event_store.proofs.queue.EventQueue.copied.Given as goal

abbrev pub invariant-loop-at : goal.invariant-loop-at
invariant-loop-at g l = record {
  copy : l.copy ≡ take l.at l.self-inside.held.items;
  steps : l.steps ≤ l.initial.steps + l.at;
}
