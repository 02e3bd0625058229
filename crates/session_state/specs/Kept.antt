-- What contracts see of a session's state.
use Rattle.std.specs.Prelude.{◌≡◌, ℕ, ◌+◌, ◌<◌, ◌≤◌, ◌^◌, List, Bool, Option, length, All}
use Rattle.osq_value.specs.declared.moment.TheConstants.{LAST_MOMENT}
use Rattle.pack_rules.specs.declared.schedule.Schedule.{Schedule}
use Rattle.entry_model.specs.declared.entry.Entry.{Entry}
use Rattle.entry_model.specs.declared.entry.Entry.TheVariants.{Opened, Configured, Ticked, Appended, TableSet, Expired, Committed, Acked}
use Rattle.entry_model.specs.declared.restored.Restored.{Restored}
use Rattle.entry_model.specs.declared.restored.Run.{Run}
use Rattle.entry_model.specs.declared.restored.Taken.{Taken}
use Rattle.entry_model.specs.Next.{with_offset, with_batch}
use Rattle.pack_rules.specs.Sound.{IsSound}
use Rattle.event_store.specs.Contents.{Contents, IsImage}
use Rattle.query_cursors.specs.Places.{places_of}
use Rattle.session_state.specs.Marks.{IsRising, behind_marks}
use Rattle.session_state.specs.Rooms.{all_due, all_new}

-- the values of a kept list, but for its events and tables
pub record Counts : Type 0 where
  pub position : ℕ
  pub sessions : ℕ
  pub moment : ℕ
  pub taken : List Taken
  pub runs : List Run
  pub batches : ℕ
  pub acked : ℕ

abbrev pub counts_of : Restored → Counts
counts_of r =
    record { position = r.position; sessions = r.sessions; moment = r.moment; taken = r.taken; runs = r.runs; batches = r.batches; acked = r.acked }

-- these values after one more entry
abbrev pub counts_next : Counts → Entry → Counts
counts_next c (Opened session rules) = record c { position = c.position + 1; sessions = c.sessions + 1 }
counts_next c (Configured document schedule moment) = record c { position = c.position + 1; moment = moment }
counts_next c (Ticked moment) = record c { position = c.position + 1; moment = moment }
counts_next c (Appended source taken events skipped moment) = record c { position = c.position + 1; taken = with_offset c.taken source taken }
counts_next c (TableSet source table rows taken) = record c { position = c.position + 1; taken = with_offset c.taken source taken }
counts_next c (Expired table floor moment) = record c { position = c.position + 1 }
counts_next c (Committed batch) =
    record c { position = c.position + 1; runs = with_batch c.runs batch.query batch.number batch.hi batch.moment; batches = c.batches + 1 }
counts_next c (Acked upto) = record c { position = c.position + 1; acked = upto }

pub record Kept : Type 0 where
  pub counts : Counts
  pub image : Contents
  pub schedule : Schedule
  pub ticked : Bool  -- a tick of the session has begun
  pub marks : List ℕ  -- the places of its Configured and Ticked entries
  pub claims : List Bool  -- which queries of the schedule are claimed
  pub run_room : ℕ  -- for how many queries without a batch there is room
  pub places : List (Option ℕ)  -- where each query of the schedule has its last batch among those of all
  pub tail : List Entry  -- the entries that are not taken yet
  pub tail_room : ℕ  -- for how many more there is room

-- how many queries are due
abbrev pub due_count : Kept → ℕ
due_count s = length (all_due s.counts.runs s.counts.moment s.schedule.queries)

-- what is known of a run
pub record IsRun (batches : ℕ) (run : Run) : Type 0 where
  pub some : 1 ≤ run.count
  pub most : run.count ≤ batches
  pub given : run.number ≤ batches
  pub past : run.moment ≤ LAST_MOMENT

-- what is known of every state
pub record IsState (s : Kept) : Type 0 where
  pub image : IsImage s.image
  pub position : s.counts.position + s.tail_room < 2 ^ 63
  pub sessions : s.counts.sessions < 2 ^ 63
  pub moment : s.counts.moment ≤ LAST_MOMENT
  pub runs : All (IsRun s.counts.batches) s.counts.runs
  pub batches : s.counts.batches ≤ 2 ^ 62
  pub acked : s.counts.acked ≤ s.counts.batches
  pub schedule : IsSound s.schedule
  pub claims : length s.claims ≡ length s.schedule.queries
  pub room : due_count s ≤ s.tail_room  -- for a commit of each due query
  pub run_room : length (all_new s.counts.runs s.schedule.queries) ≤ s.run_room
  pub places : s.places ≡ places_of s.counts.runs s.schedule.queries
  pub rising : IsRising 0 s.marks
  pub past : behind_marks 0 s.marks ≤ s.counts.position
