use Rattle.std.proofs.Common.{◌≡◌, ℕ, ◌+◌, fold, take}
use Rattle.kept_tables.specs.Edits.{behind, own}
use Rattle.kept_tables.specs.Groups.{no_groups, with_item}
use Rattle.kept_tables.specs.Parts.{AreEventTexts, full_events}
use Rattle.kept_tables.proofs.parts.event_parts.Given as goal

abbrev pub invariant-loop-event : goal.invariant-loop-event
invariant-loop-event l = record {
  number : l.number ≡ l.before + l.event-index;
  texts : (moment : ℕ) → AreEventTexts l.texts (fold (with_item full_events) no_groups (own l.table (behind l.before moment (take l.event-index l.events))));
}
