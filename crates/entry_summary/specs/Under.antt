-- The values of a list by floors that are given, in place of those of its own entries.
use Rattle.std.specs.Prelude.{ℕ, ◌+◌, List, [], ◌∷◌, ◌++◌, length, map, filter}
use Rattle.osq_value.specs.declared.value.Event.{Event}
use Rattle.entry_model.specs.declared.entry.Entry.{Entry}
use Rattle.entry_model.specs.declared.entry.Entry.TheVariants.{Opened, Configured, Ticked, Appended, TableSet, Expired, Committed, Acked}
use Rattle.entry_model.specs.declared.restored.Live.{Live}
use Rattle.entry_model.specs.declared.restored.Restored.{Restored}
use Rattle.entry_model.specs.Values.{numbered, all_events, is_above}
use Rattle.entry_model.specs.Next.{with_offset, restored_next}
use Rattle.entry_model.specs.Summary.{summary}

-- these events, numbered behind the last one, as far as they are above the floors
abbrev pub added_above : (ℕ → ℕ) → ℕ → ℕ → List Event → List Live
added_above floor last moment events = filter (is_above floor) (numbered (1 + last) (map (λ (event : Event). (moment, event)) events))

abbrev pub summary_under : (ℕ → ℕ) → List Entry → Restored
summary_under floor entries =
    record (summary entries) {
      floors = floor 0 ∷ floor 1 ∷ floor 2 ∷ [];
      live = filter (is_above floor) (all_events entries);
    }

-- these values after one more entry
abbrev pub next_under : (ℕ → ℕ) → Restored → Entry → Restored
next_under floor r (Appended source taken events skipped moment) =
    record r {
      position = r.position + 1;
      last = r.last + length events;
      live = r.live ++ added_above floor r.last moment events;
      taken = with_offset r.taken source taken;
    }
next_under floor r (Expired table reached moment) = record r { position = r.position + 1 }
next_under floor r (Opened session rules) = restored_next r (Opened session rules)
next_under floor r (Configured document schedule moment) = restored_next r (Configured document schedule moment)
next_under floor r (Ticked moment) = restored_next r (Ticked moment)
next_under floor r (TableSet source table rows taken) = restored_next r (TableSet source table rows taken)
next_under floor r (Committed batch) = restored_next r (Committed batch)
next_under floor r (Acked upto) = restored_next r (Acked upto)
