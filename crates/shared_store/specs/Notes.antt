-- What the list of a store's lock says.
use Rattle.std.specs.Prelude.{◌≡◌, List, [], ◌∷◌, ◌++◌, map, drop, length, Option, Some, None, Result, Ok, Err}
use Rattle.osq_value.specs.declared.memory.NoMemory.{NoMemory}
use Rattle.entry_model.specs.declared.entry.Entry.{Entry}
use Rattle.session_state.specs.Cut.{CutValue}
use Rattle.shared_store.specs.declared.noted.Noted.{Noted}
use Rattle.shared_store.specs.declared.noted.Noted.TheVariants.{Added, Taken, Given}

-- the entries that were added
abbrev pub entries_in : List Noted → List Entry
entries_in [] = []
entries_in (Added entry ∷ rest) = entry ∷ entries_in rest
entries_in (Taken ∷ rest) = entries_in rest
entries_in (Given cut ∷ rest) = entries_in rest

-- the entries that are not taken: behind the last mark those that were added since, and where there is no mark, what was there before and all that were added
abbrev pub untaken : List Entry → List Noted → List Entry
untaken before [] = before
untaken before (Added entry ∷ rest) = untaken (before ++ entry ∷ []) rest
untaken before (Taken ∷ rest) = untaken [] rest
untaken before (Given cut ∷ rest) = untaken before rest

-- the cut was given
abbrev pub WasGiven : CutValue → List Noted → Type 0
WasGiven cut notes = (before : List Noted) × (after : List Noted) × (notes ≡ before ++ Given cut ∷ after)

-- the entries behind those of an earlier tail
abbrev pub grown : List Entry → List Entry → List Noted
grown old new = map Added (drop (length old) new)

-- a mark, where the tail was taken
abbrev pub taken_by : {X : Type 0} → Result X NoMemory → List Noted
taken_by (Ok taken) = Taken ∷ []
taken_by (Err error) = []

abbrev pub given_of : Option CutValue → List Noted
given_of None = []
given_of (Some cut) = Given cut ∷ []

-- the cut, where one was given
abbrev pub given_by : Result (Option CutValue) NoMemory → List Noted
given_by (Ok given) = given_of given
given_by (Err error) = []
