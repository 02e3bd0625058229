-- What threads have added, by the seats.
use Rattle.std.proofs.Common.{◌≡◌, ℕ, true, List, get_or, ap, sym, ◌∙◌}
use Rattle.std.specs.Prelude.{All}
use Rattle.std.proofs.lemmas.List.Elements.{All-weaker, All-map}
use Rattle.entry_model.specs.declared.entry.Entry.{Entry}
use Rattle.turn_lock.specs.Turns.{entries}
use Rattle.shared_store.specs.Notes.{entries_in}
use Rattle.shared_store.specs.declared.noted.Noted.{Noted}
use Rattle.thread_laws.specs.Jobs.{Stamped}
use Rattle.thread_laws.specs.Joining.{Part, AreAdded}
use Rattle.thread_laws.specs.Laws.{BySeats, is_added}
use Rattle.thread_laws.proofs.Agreed.{each_added, own_of_each}
use Rattle.thread_laws.proofs.Adding.{HoldsIn, IsStill, added_by, added_still, answered_by, entries_all, entries_from}

module _ (parts : List Part) (workers : List ℕ) (more : Stamped) (added : AreAdded parts workers more) where
  pub all_added : All (λ (entry : Entry). is_added parts entry ≡ true) (entries_in (entries more))
  all_added = entries_all (λ (entry : Entry). is_added parts entry ≡ true) (entries more)
      (All-map (HoldsIn (λ (entry : Entry). is_added parts entry ≡ true)) (λ (note : ℕ × Noted). note.1) more all_notes)
    where
      all_notes : All (λ (note : ℕ × Noted). HoldsIn (λ (entry : Entry). is_added parts entry ≡ true) note.1) more
      all_notes = each_added parts workers more added (λ (number : ℕ). HoldsIn (λ (entry : Entry). is_added parts entry ≡ true)) (added_by parts) (λ k d h. answered_by parts)

  pub all_still : All IsStill (entries_in (entries more))
  all_still = All-weaker (λ (entry : Entry). is_added parts entry ≡ true) IsStill (added_still parts) (entries_in (entries more)) all_added

pub by_seats : BySeats
by_seats parts workers more distinct added = record {
  own_are = λ k d h. sym (entries_from (get_or parts k d).name (entries more)) ∙ ap entries_in (own_of_each parts workers more added distinct k d h);
  others = all_added parts workers more added;
}
