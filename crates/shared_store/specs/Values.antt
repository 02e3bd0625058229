-- The values of a state by those of its start and the entries that were added, whatever list the start stands for.
use Rattle.std.specs.Prelude.{◌≡◌, List, [], ◌∷◌}
use Rattle.entry_model.specs.declared.entry.Entry.{Entry}
use Rattle.entry_model.specs.Values.{last_of, schedule_in, tick_in}
use Rattle.event_store.specs.Contents.{Contents}
use Rattle.event_store.specs.Laws.{Follows}
use Rattle.session_state.specs.Kept.{Counts, Kept, counts_next}

-- one entry after another
abbrev pub counts_after : Counts → List Entry → Counts
counts_after counts [] = counts
counts_after counts (entry ∷ rest) = counts_after (counts_next counts entry) rest

abbrev pub FollowsAll : Contents → List Entry → Contents → Type 0
FollowsAll old [] new = new ≡ old
FollowsAll old (entry ∷ rest) new = (next : Contents) × Follows entry old next × FollowsAll next rest new

-- the state has come from the start by these entries
pub record ComesBy (start : Kept) (entries : List Entry) (state : Kept) : Type 0 where
  pub image : FollowsAll start.image entries state.image
  pub counts : state.counts ≡ counts_after start.counts entries
  pub schedule : state.schedule ≡ last_of schedule_in start.schedule entries
  pub ticked : state.ticked ≡ last_of tick_in start.ticked entries
