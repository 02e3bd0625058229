-- What contracts see of a state's fields.
use Rattle.std.specs.Prelude.{◌≡◌, All}
use Rattle.event_store.specs.Slices.{IsSliceOf}
use Rattle.query_cursors.specs.Due.{NoneFree}
use Rattle.session_state.specs.declared.state.State.TheInside.{Inside}
use Rattle.session_state.specs.Kept.{Kept, IsState}
use Rattle.session_state.specs.Computed.{schedule_shown}
use Rattle.session_state.specs.Listed.{AreFresh}
use Rattle.session_state.specs.Readers.{readers_of}

abbrev pub kept : Inside → Kept
kept s =
    record {
      counts = record { position = s.position; sessions = s.sessions; moment = s.moment; taken = s.taken; runs = s.cursors.runs; batches = s.batches; acked = s.acked };
      image = s.image;
      schedule = s.schedule;
      ticked = s.ticked;
      marks = s.marks.items;
      claims = s.claims.items;
      run_room = s.cursors.room;
      places = s.cursors.places;
      tail = s.tail.entries;
      tail_room = s.tail.room;
    }

-- what is known of the fields
pub record IsWhole (s : Inside) : Type 0 where
  pub state : IsState (kept s)
  pub listed : AreFresh (schedule_shown s.cursors.runs s.schedule.queries) s.listed
  pub readers : s.readers ≡ readers_of s.schedule.queries
  pub slices : All (IsSliceOf s.image) s.slices
  pub passed : NoneFree s.cursors.runs s.schedule.queries s.claims.items s.moment s.from
