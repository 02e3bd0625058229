-- What a shared state knows of the lists for which it stands.
use Rattle.std.specs.Prelude.{◌≡◌, List, [], ◌∷◌, ◌++◌}
use Rattle.entry_model.specs.declared.entry.Entry.{Entry}
use Rattle.entry_model.specs.declared.restored.Restored.{Restored}
use Rattle.entry_model.specs.Legal.{Legal}
use Rattle.entry_model.specs.Summary.{summary}
use Rattle.session_state.specs.Kept.{Kept, IsState}
use Rattle.session_state.specs.Laws.{KnowsDues}
use Rattle.session_state.specs.StateOf.{IsStateOf}
use Rattle.shared_store.specs.declared.noted.Noted.{Noted}
use Rattle.shared_store.specs.declared.noted.Noted.TheVariants.{Added, Taken, Given}
use Rattle.shared_store.specs.Notes.{entries_in}
use Rattle.shared_store.specs.Shares.{StandsFor}

-- which query is due and what is owed by the state, is due and owed by each kept list for which its start stands, and the entries that were added behind it
abbrev pub Dues : Type 0
Dues =
    (start : Kept) (notes : List Noted) (state : Kept) → IsState state → StandsFor start notes state → (base : Restored) (added : List Entry) → IsStateOf base added start → (before : List Entry) → Legal before → summary before ≡ base
    → KnowsDues (before ++ (added ++ entries_in notes)) state

-- no tail was taken
abbrev pub HasNoMark : List Noted → Type 0
HasNoMark [] = Unit {0}
HasNoMark (Added entry ∷ rest) = HasNoMark rest
HasNoMark (Taken ∷ rest) = ⊥
HasNoMark (Given cut ∷ rest) = HasNoMark rest

-- the tail is what was added behind the last mark, and where there is no mark, that of the start and all that was added
pub record Tails : Type 0 where
  pub marked : (start : Kept) (before after : List Noted) (state : Kept) → HasNoMark after → StandsFor start (before ++ Taken ∷ after) state → state.tail ≡ entries_in after
  pub unmarked : (start : Kept) (notes : List Noted) (state : Kept) → HasNoMark notes → StandsFor start notes state → state.tail ≡ start.tail ++ entries_in notes
