-- For which list a shared state stands.
use Rattle.std.specs.Prelude.{◌≡◌, ◌+◌, List, ◌∷◌, ◌++◌, length}
use Rattle.entry_model.specs.declared.entry.Entry.{Entry}
use Rattle.entry_model.specs.declared.restored.Restored.{Restored}
use Rattle.session_state.specs.Kept.{Kept}
use Rattle.session_state.specs.Cut.{CutValue}
use Rattle.session_state.specs.CutOf.{IsCutOf}
use Rattle.session_state.specs.Cutting.{CutStands}
use Rattle.session_state.specs.StateOf.{IsStateOf}
use Rattle.shared_store.specs.declared.noted.Noted.{Noted}
use Rattle.shared_store.specs.declared.noted.Noted.TheVariants.{Given}
use Rattle.shared_store.specs.Notes.{entries_in, untaken}
use Rattle.shared_store.specs.Values.{ComesBy}

-- the state stands for these entries behind each list for which the start stands
abbrev pub StandsBehind : Kept → List Entry → Kept → Type 0
StandsBehind start entries state = (base : Restored) (added : List Entry) → IsStateOf base added start → IsStateOf base (added ++ entries) state

-- the cut stands for these entries behind each list for which the start stands, and is made from as many
pub record IsMadeFrom (start : Kept) (entries : List Entry) (cut : CutValue) : Type 0 where
  pub stands : (base : Restored) (added : List Entry) → IsStateOf base added start → CutStands base (added ++ entries) cut
  pub position : cut.position ≡ start.counts.position + length entries

-- a cut that was given behind these stands for what was there, and the state still knows it
pub record KnowsCut (start : Kept) (before : List Noted) (cut : CutValue) (state : Kept) : Type 0 where
  pub made : IsMadeFrom start (entries_in before) cut
  pub own : IsCutOf state cut

-- the state stands for the entries that were added, its tail is what was not taken, and it knows each cut that was given
pub record StandsFor (start : Kept) (notes : List Noted) (state : Kept) : Type 0 where
  pub stands : StandsBehind start (entries_in notes) state
  pub comes : ComesBy start (entries_in notes) state
  pub tail : state.tail ≡ untaken start.tail notes
  pub cuts : (before after : List Noted) (cut : CutValue) → notes ≡ before ++ Given cut ∷ after → KnowsCut start before cut state

-- the cut is made from entries that begin with those of these notes
abbrev pub IsNoOlder : Kept → List Noted → CutValue → Type 0
IsNoOlder start notes cut = (more : List Entry) × IsMadeFrom start (entries_in notes ++ more) cut
