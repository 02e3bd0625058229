use Rattle.std.proofs.Common.{◌≡◌, ◌+◌, ◌-◌, ◌≤◌, length, take, drop}
use Rattle.std.specs.Prelude.{All}
use Rattle.entry_model.specs.Legal.{IsEvent}
use Rattle.event_store.specs.Queues.{new_events, placed, IsLonger}
use Rattle.event_store.proofs.placing.fill.Given as goal

abbrev pub invariant-loop-number : goal.invariant-loop-number
invariant-loop-number g l = record {
  queues : placed l.queues (new_events l.number l.moment (take (l.until - l.number) l.rest.items)) ≡ placed l.initial.queues (new_events l.last l.moment (take (l.until - l.last) l.initial.rest.items));
  rest : drop (l.until - l.number) l.rest.items ≡ drop (l.until - l.last) l.initial.rest.items;
  longer : IsLonger l.initial.queues l.queues;
  events : All IsEvent l.rest.items;
  number : l.number ≤ l.until;
  enough : l.until ≤ l.number + length l.rest.items;
  steps : l.steps + (l.until - l.number) ≡ l.initial.steps + (l.until - l.last);
}

abbrev pub decreases-loop-number : goal.decreases-loop-number
decreases-loop-number g l = l.until - l.number
