-- For which lists of entries a state stands.
use Rattle.std.specs.Prelude.{◌≡◌, ◌+◌, List, [], ◌∷◌, ◌++◌, length, unwrap_or, false}
use Rattle.entry_model.specs.declared.entry.Entry.{Entry}
use Rattle.entry_model.specs.declared.entry.Entry.TheVariants.{Opened}
use Rattle.entry_model.specs.declared.restored.Restored.{Restored}
use Rattle.entry_model.specs.Values.{schedule_in, schedule_of, tick_in, has_ticked, no_schedule, rules_of}
use Rattle.entry_model.specs.Legal.{Legal}
use Rattle.entry_model.specs.Summary.{summary}
use Rattle.event_store.specs.Contents.{Holds}
use Rattle.event_store.specs.Laws.{StandsFor, Follows}
use Rattle.session_state.specs.Kept.{Kept, counts_of, counts_next}
use Rattle.session_state.specs.Cut.{CutValue}
use Rattle.session_state.specs.CutOf.{IsCutOf}
use Rattle.session_state.specs.Marks.{mark_in, marks_from}

-- the list is legal, its session runs by rules 2, and these are its values
pub record HasValues (entries : List Entry) (state : Kept) : Type 0 where
  pub legal : Legal entries
  pub counts : counts_of (summary entries) ≡ state.counts
  pub image : StandsFor entries state.image
  pub schedule : schedule_of entries ≡ state.schedule
  pub ticked : has_ticked entries ≡ state.ticked
  pub rules : rules_of entries ≡ 2

-- the state stands for these entries, added to any legal list with this summary
pub record IsStateOf (base : Restored) (added : List Entry) (state : Kept) : Type 0 where
  pub values : (before : List Entry) → Legal before → summary before ≡ base → HasValues (before ++ added) state
  pub marks : state.marks ≡ marks_from base.position added
  pub position : state.counts.position ≡ base.position + length added

-- the new state has one entry more, and no other value has changed
pub record Moves (old : Kept) (entry : Entry) (new : Kept) : Type 0 where
  pub counts : new.counts ≡ counts_next old.counts entry
  pub image : Follows entry old.image new.image
  pub schedule : new.schedule ≡ unwrap_or (schedule_in entry) old.schedule
  pub ticked : new.ticked ≡ unwrap_or (tick_in entry) old.ticked
  pub marks : new.marks ≡ old.marks ++ mark_in old.counts.position entry
  pub tail : new.tail ≡ old.tail ++ entry ∷ []

-- the new state stands for one entry more, and knows each cut that the old one knew
pub record Adds (old : Kept) (entry : Entry) (new : Kept) : Type 0 where
  pub moves : Moves old entry new
  pub stands : (base : Restored) (added : List Entry) → IsStateOf base added old → IsStateOf base (added ++ entry ∷ []) new
  pub cuts : (cut : CutValue) → IsCutOf old cut → IsCutOf new cut

-- the state of a session that opens over these values
pub record Begins (restored : Restored) (state : Kept) : Type 0 where
  pub stands : IsStateOf restored (Opened (restored.sessions + 1) 2 ∷ []) state
  pub counts : state.counts ≡ counts_next (counts_of restored) (Opened (restored.sessions + 1) 2)
  pub image : Holds restored state.image
  pub schedule : state.schedule ≡ no_schedule
  pub ticked : state.ticked ≡ false
  pub marks : state.marks ≡ []
  pub claims : state.claims ≡ []
  pub tail : state.tail ≡ Opened (restored.sessions + 1) 2 ∷ []
