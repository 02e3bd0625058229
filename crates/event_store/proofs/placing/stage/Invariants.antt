use Rattle.std.proofs.Common.{◌≡◌, ◌+◌, ◌<◌, ◌≤◌, ℕ, [], ◌∷◌, ◌++◌, length}
use Rattle.std.specs.Prelude.{All, slice_index}
use Rattle.entry_model.specs.Legal.{IsEvent}
use Rattle.event_store.specs.Queues.{events_of, new_events}
use Rattle.event_store.specs.Segments.{joined, reach_of, AreSegments}
use Rattle.event_store.proofs.placing.stage.Given as goal

abbrev pub invariant-loop-alloc : goal.invariant-loop-alloc
invariant-loop-alloc g l = record {
  segments : AreSegments l.last l.reached (λ table. slice_index l.fn.empty.before table) l.staged.parts.items l.staged.tail;
  joined : (table : ℕ) → table < 3 → joined table (l.staged.parts.items ++ l.staged.tail ∷ []) ++ events_of (new_events l.reached l.moment l.rest.items) table ≡ events_of (new_events l.last l.moment l.fn.rest.items) table;
  reach : (table : ℕ) → table < 3 → reach_of table l.staged.tail ≤ l.reached;
  held : l.staged.tail.held ≡ [] ∷ [] ∷ [] ∷ [];
  end : l.staged.tail.end ≡ l.reached + 256;
  events : All IsEvent l.rest.items;
  number : l.reached + length l.rest.items ≡ l.last + length l.fn.rest.items;
  steps : l.steps + length l.rest.items ≡ l.initial.steps + length l.fn.rest.items;
}

abbrev pub decreases-loop-alloc : goal.decreases-loop-alloc
decreases-loop-alloc g l = length l.rest.items
