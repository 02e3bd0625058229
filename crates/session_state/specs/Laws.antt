-- What a state knows of the list for which it stands: what keeps a tick from beginning, and what a query sees.
use Rattle.std.specs.Prelude.{◌≡◌, ℕ, true, if◌then◌else◌, List, position, find, is_some, Option, None}
use Rattle.osq_value.specs.Catalogue.{evented_ids}
use Rattle.entry_model.specs.declared.entry.Entry.{Entry}
use Rattle.entry_model.specs.Values.{schedule_of, has_ticked}
use Rattle.entry_model.specs.Views.{is_evented_table, is_due, owed_floor, view_of}
use Rattle.event_store.specs.Contents.{rows_in}
use Rattle.session_state.specs.Kept.{Kept, IsState}
use Rattle.session_state.specs.StateOf.{HasValues}
use Rattle.session_state.specs.Ticks as ticks
use Rattle.session_state.specs.Computed.{shown_by}

-- the place of the first query that is due after these entries
abbrev pub first_due : List Entry → Option ℕ
first_due entries = if has_ticked entries then position (is_due entries) (schedule_of entries).queries else None

-- the first table of which events are to expire
abbrev pub first_owed : List Entry → Option ℕ
first_owed entries = find (λ table. is_some (owed_floor entries table)) evented_ids

-- the state knows what the list says
pub record KnowsDues (entries : List Entry) (state : Kept) : Type 0 where
  pub due : ticks.first_due state ≡ first_due entries
  pub owed : (table : ℕ) → is_evented_table table ≡ true → ticks.owed_at state table ≡ owed_floor entries table
  pub held_back : ticks.held_back_by state ≡ ticks.refusal_of (first_due entries) (first_owed entries)

abbrev pub Dues : Type 0
Dues = (entries : List Entry) (state : Kept) → IsState state → HasValues entries state → KnowsDues entries state

-- what is shown of a state is what a query sees of its list
abbrev pub Shows : Type 0
Shows =
    (entries : List Entry) (state : Kept) → IsState state → HasValues entries state → (above moment table : ℕ) → rows_in (shown_by state above moment) table ≡ view_of entries above moment table
