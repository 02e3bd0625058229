-- Which cut a state gives, and for which lists it stands.
use Rattle.std.specs.Prelude.{◌≡◌, ℕ, true, false, if◌then◌else◌, List, ◌++◌, length, set, slice_get, is_some, Contains, Option, Some, None, option_map}
use Rattle.pack_rules.specs.declared.schedule.Mode.{Mode}
use Rattle.pack_rules.specs.declared.schedule.Mode.TheVariants.{Evented, Snapshot}
use Rattle.pack_rules.specs.declared.schedule.QueryKey.{QueryKey}
use Rattle.pack_rules.specs.declared.schedule.Scheduled.{Scheduled}
use Rattle.entry_model.specs.declared.entry.Entry.{Entry}
use Rattle.entry_model.specs.declared.restored.Restored.{Restored}
use Rattle.entry_model.specs.Values.{last_number, moment_of, batches_of, number_of}
use Rattle.entry_model.specs.Views.{view_of, due_queries}
use Rattle.entry_model.specs.Legal.{Legal, begins_at}
use Rattle.entry_model.specs.Summary.{summary}
use Rattle.event_store.specs.Contents.{rows_in}
use Rattle.query_cursors.specs.Due as cursors
use Rattle.session_state.specs.Kept.{Kept}
use Rattle.session_state.specs.Cut.{CutValue}
use Rattle.session_state.specs.CutOf.{mark_from}
use Rattle.session_state.specs.Computed.{shown_by}

-- the place of the query that is cut next: at a tick the first due one that is not claimed, else the first due one
abbrev pub next_place : Kept → Option ℕ
next_place s = if s.ticked then cursors.next_of s.counts.runs s.schedule.queries s.claims s.counts.moment else None

-- above which number the events of a query of this mode are, where its last batch ended there
abbrev pub lower_from : Mode → ℕ → ℕ
lower_from Evented end = end
lower_from Snapshot end = 0

-- above which number the query's events are
abbrev pub lower_at : Kept → QueryKey → Mode → ℕ
lower_at s query Evented = cursors.cursor_of s.counts.runs query
lower_at s query Snapshot = 0

-- above which number the events are that the query at this place of the schedule sees
abbrev pub bound_at : Kept → ℕ → Option ℕ
bound_at s place =
    option_map (λ (scheduled : Scheduled). lower_at s scheduled.key scheduled.key.mode) (slice_get s.schedule.queries place)

-- the cut of the query that stands at this place of the schedule
abbrev pub cut_of : Kept → ℕ → Scheduled → CutValue
cut_of s place scheduled =
    record {
      place = place;
      key = scheduled.key;
      lo = lower_at s scheduled.key scheduled.key.mode;
      hi = s.image.last;
      position = s.counts.position;
      moment = s.counts.moment;
      last = cursors.number_of s.counts.runs scheduled.key;
      view = shown_by s (lower_at s scheduled.key scheduled.key.mode) s.counts.moment;
    }

abbrev pub cut_at : Kept → Option ℕ → Option CutValue
cut_at s None = None
cut_at s (Some place) = option_map (cut_of s place) (slice_get s.schedule.queries place)

-- the cut that is given next
abbrev pub next_cut : Kept → Option CutValue
next_cut s = cut_at s (next_place s)

-- the query at this place is claimed
abbrev pub claimed_at : Kept → Option ℕ → Kept
claimed_at s None = s
claimed_at s (Some place) = record s { claims = set s.claims place true }

-- the query of the cut is not claimed any more, where no such entry came since
abbrev pub released : Kept → CutValue → Kept
released s cut = if is_some (mark_from s cut.position) then s else record s { claims = set s.claims cut.place false }

-- the list has this cut of a query that is due
pub record HasCut (entries : List Entry) (cut : CutValue) : Type 0 where
  pub position : cut.position ≡ length entries
  pub due : Contains (due_queries entries) cut.key
  pub lower : cut.lo ≡ begins_at entries cut.key cut.key.mode
  pub upper : cut.hi ≡ last_number entries
  pub now : cut.moment ≡ moment_of entries
  pub last : cut.last ≡ number_of (batches_of entries cut.key)
  pub view : (table : ℕ) → rows_in cut.view table ≡ view_of entries cut.lo cut.moment table

-- the cut stands for these entries, added to any legal list with this summary
abbrev pub CutStands : Restored → List Entry → CutValue → Type 0
CutStands base added cut = (before : List Entry) → Legal before → summary before ≡ base → HasCut (before ++ added) cut
