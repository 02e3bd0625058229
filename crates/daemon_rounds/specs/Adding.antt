-- What a state gains by several entries.
use Rattle.std.specs.Prelude.{◌≡◌, Bool, false, All, List, [], ◌∷◌, ◌++◌}
use Rattle.entry_model.specs.declared.entry.Entry.{Entry}
use Rattle.entry_model.specs.declared.restored.Restored.{Restored}
use Rattle.entry_model.specs.Values.{last_of, schedule_in, tick_in}
use Rattle.session_state.specs.Kept.{Counts, Kept, counts_next}
use Rattle.session_state.specs.StateOf.{IsStateOf}

-- these values after entries, one after another
abbrev pub counts_after : Counts → List Entry → Counts
counts_after counts [] = counts
counts_after counts (entry ∷ rest) = counts_after (counts_next counts entry) rest

-- no query is claimed
abbrev pub AreFree : List Bool → Type 0
AreFree claims = All (λ claim. claim ≡ false) claims

-- the new state stands for these entries more, has them at the end of its tail, and runs what they configure; where no query was claimed,
-- none is
pub record AddsEntries (old : Kept) (entries : List Entry) (new : Kept) : Type 0 where
  pub stands : (base : Restored) (added : List Entry) → IsStateOf base added old → IsStateOf base (added ++ entries) new
  pub counts : new.counts ≡ counts_after old.counts entries
  pub schedule : new.schedule ≡ last_of schedule_in old.schedule entries
  pub ticked : new.ticked ≡ last_of tick_in old.ticked entries
  pub tail : new.tail ≡ old.tail ++ entries
  pub free : AreFree old.claims → AreFree new.claims
