-- What becomes of a state at a commit.
use Rattle.std.specs.Prelude.{ℕ, ◌+◌, ◌^◌, ◌==◌, nat_lt, if◌then◌else◌, List, [], ◌∷◌, ◌++◌, Option, Some, None}
use Rattle.osq_value.specs.declared.value.Value.{Value}
use Rattle.entry_model.specs.declared.entry.Entry.{Entry}
use Rattle.entry_model.specs.declared.entry.Entry.TheVariants.{Committed}
use Rattle.entry_model.specs.declared.restored.Restored.{Restored}
use Rattle.query_cursors.specs.Due.{number_of}
use Rattle.session_state.specs.declared.state.CommitRefusal.{CommitRefusal}
use Rattle.session_state.specs.declared.state.CommitRefusal.TheVariants.{Superseded, Stale, NumbersSpent}
use Rattle.session_state.specs.Kept.{Kept}
use Rattle.session_state.specs.Cut.{CutValue, batch_of}
use Rattle.session_state.specs.CutOf.{mark_from, IsCutOf}
use Rattle.session_state.specs.Cutting.{CutStands}
use Rattle.session_state.specs.StateOf.{Moves, IsStateOf}

-- a later batch of the query first, then an entry that outdates the cut, then the numbers
abbrev pub refusal_by : Kept → CutValue → Option ℕ → Option CommitRefusal
refusal_by s cut (Some position) = Some (Stale position cut)
refusal_by s cut None = if nat_lt (2 ^ 62) (s.counts.batches + 1) then Some (NumbersSpent cut) else None

abbrev pub commit_refusal : Kept → CutValue → Option CommitRefusal
commit_refusal s cut =
    if number_of s.counts.runs cut.key == cut.last then refusal_by s cut (mark_from s cut.position)
    else Some (Superseded (number_of s.counts.runs cut.key) cut)

-- the entry of the cut's batch, which has the next number
abbrev pub committed : Kept → CutValue → List (List Value) → Entry
committed s cut rows = Committed (batch_of cut (s.counts.batches + 1) rows)

-- the new state has the batch more, stands for one entry more than each list that has the cut, and knows each cut that the
-- old one knew
pub record Commits (old : Kept) (cut : CutValue) (rows : List (List Value)) (new : Kept) : Type 0 where
  pub moves : Moves old (committed old cut rows) new
  pub stands : (base : Restored) (before since : List Entry) → CutStands base before cut → IsStateOf base (before ++ since) old → IsStateOf base ((before ++ since) ++ committed old cut rows ∷ []) new
  pub cuts : (other : CutValue) → IsCutOf old other → IsCutOf new other
