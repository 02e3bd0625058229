-- Lists of entries, each with what is to be said of it, worked out by hand.
use Rattle.std.specs.Prelude.{◌≡◌, ℕ, suc, List, [], ◌∷◌, ◌++◌, take, codes}
use Rattle.osq_value.specs.declared.value.TheConstants.TableId.{SOCKET_EVENTS, FILE_EVENTS, GROUPS}
use Rattle.osq_value.specs.declared.value.Event.{Event}
use Rattle.osq_value.specs.declared.value.Value.{Value}
use Rattle.osq_value.specs.declared.value.Value.TheVariants.{Null, Text}
use Rattle.sql_texts.specs.Meaning.{meaning}
use Rattle.pack_rules.specs.declared.schedule.Mode.TheVariants.{Evented}
use Rattle.pack_rules.specs.declared.schedule.Form.TheVariants as form
use Rattle.pack_rules.specs.declared.schedule.QueryKey.{QueryKey}
use Rattle.pack_rules.specs.declared.schedule.Schedule.{Schedule}
use Rattle.entry_model.specs.declared.entry.Batch.{Batch}
use Rattle.entry_model.specs.declared.entry.Entry.{Entry}
use Rattle.entry_model.specs.declared.entry.Entry.TheVariants.{Opened, Configured, Ticked, Appended, TableSet, Expired, Committed, Acked}
use Rattle.entry_model.specs.declared.restored.Live.{Live}
use Rattle.entry_model.specs.declared.restored.Run.{Run}
use Rattle.entry_model.specs.declared.restored.Restored.{Restored}
use Rattle.entry_model.specs.Views.{view_of}
use Rattle.entry_model.specs.Legal.{Legal}
use Rattle.entry_model.specs.Summary.{summary}

-- the list is legal, and has these values
pub record IsLegal (entries : List Entry) (values : Restored) : Type 0 where
  pub legal : Legal entries
  pub has : summary entries ≡ values

-- the first so many entries are legal, and with the next one they are not
pub record IsLegalTo (place : ℕ) (entries : List Entry) : Type 0 where
  pub legal : Legal (take place entries)
  pub ends : ¬ Legal (take (suc place) entries)

-- a change of the file /a, of which all other columns are Null
abbrev pub change_row : List Value
change_row = Text (codes "/a") ∷ Null ∷ Null ∷ Null ∷ Null ∷ Null ∷ Null ∷ Null ∷ Null ∷ Null ∷ []

abbrev pub change : Event
change = record { table = FILE_EVENTS; row = change_row }

abbrev pub live_change : ℕ → Live
live_change number = record { number = number; table = FILE_EVENTS; moment = 1000; row = change_row }

abbrev pub log : List ℕ
log = codes "log"

abbrev pub no_values : Restored
no_values =
    record { position = 0; sessions = 0; moment = 0; last = 0; floors = 0 ∷ 0 ∷ 0 ∷ []; live = []; taken = []; tables = []; runs = []; batches = 0; acked = 0 }

-- no queries, and events are kept 30 seconds and three a table
abbrev pub bare : Schedule
bare = record { queries = []; events_expiry = 30; events_max = 3; form = form.Event }

abbrev pub started : List Entry
started = Opened 1 1 ∷ Configured [] bare 1000 ∷ Ticked 1000 ∷ []

-- up to byte 92 of the log there was one change
abbrev pub one_change : List Entry
one_change = started ++ Appended log 92 (change ∷ []) 0 1000 ∷ []

abbrev pub five_changes : List Entry
five_changes = started ++ Appended log 460 (change ∷ change ∷ change ∷ change ∷ change ∷ []) 0 1000 ∷ []

abbrev pub one_value : Restored
one_value =
    record no_values { position = 4; sessions = 1; moment = 1000; last = 1; live = live_change 1 ∷ []; taken = record { source = log; offset = 92 } ∷ [] }

abbrev pub gone_at : ℕ → Restored
gone_at moment = record one_value { position = 6; moment = moment; floors = 0 ∷ 0 ∷ 1 ∷ []; live = [] }

-- sessions, moments, readings, tables, ticks, expiries and acknowledgements
pub record PlainVerdicts : Type 0 where
  pub nothing : IsLegal [] no_values
  pub first_is_two : IsLegalTo 0 (Opened 2 1 ∷ [])
  pub one_twice : IsLegalTo 1 (Opened 1 1 ∷ Opened 1 1 ∷ [])
  pub rules_none : IsLegalTo 0 (Opened 1 0 ∷ [])
  pub rules_two : IsLegal (Opened 1 2 ∷ []) (record no_values { position = 1; sessions = 1 })
  pub rules_three : IsLegalTo 0 (Opened 1 3 ∷ [])
  pub two_sessions : IsLegal (Opened 1 1 ∷ Opened 2 1 ∷ []) (record no_values { position = 2; sessions = 2 })
  pub configured_back : IsLegalTo 2 (Opened 1 1 ∷ Configured [] bare 1000 ∷ Configured [] bare 999 ∷ [])
  pub ticked_back : IsLegalTo 2 (Opened 1 1 ∷ Configured [] bare 1000 ∷ Ticked 999 ∷ [])
  pub past_9999 : IsLegalTo 1 (Opened 1 1 ∷ Configured [] bare 253402300800 ∷ [])
  pub a_change : IsLegal one_change one_value
  pub not_further : IsLegalTo 4 (one_change ++ Appended log 92 [] 0 1000 ∷ [])
  pub at_another_moment : IsLegalTo 3 (started ++ Appended log 92 [] 0 1001 ∷ [])
  pub too_narrow : IsLegalTo 3 (started ++ Appended log 92 (record change { row = Null ∷ [] } ∷ []) 0 1000 ∷ [])
  pub of_a_recorded_table : IsLegalTo 3 (started ++ Appended log 92 (record change { table = GROUPS } ∷ []) 0 1000 ∷ [])
  pub a_table : IsLegal (started ++ TableSet log GROUPS ((Null ∷ Null ∷ []) ∷ []) 92 ∷ []) (record no_values {
    position = 4;
    sessions = 1;
    moment = 1000;
    taken = record { source = log; offset = 92 } ∷ [];
    tables = record { table = GROUPS; rows = (Null ∷ Null ∷ []) ∷ [] } ∷ [];
  })
  pub narrow_row : IsLegalTo 3 (started ++ TableSet log GROUPS ((Null ∷ []) ∷ []) 92 ∷ [])
  pub evented_table_set : IsLegalTo 3 (started ++ TableSet log FILE_EVENTS [] 92 ∷ [])
  pub gone_after_29 : IsLegalTo 5 (one_change ++ Ticked 1029 ∷ Expired FILE_EVENTS 1 1029 ∷ [])
  pub gone_after_30 : IsLegal (one_change ++ Ticked 1030 ∷ Expired FILE_EVENTS 1 1030 ∷ []) (gone_at 1030)
  pub gone_after_31 : IsLegal (one_change ++ Ticked 1031 ∷ Expired FILE_EVENTS 1 1031 ∷ []) (gone_at 1031)
  pub another_floor : IsLegalTo 5 (one_change ++ Ticked 1030 ∷ Expired FILE_EVENTS 2 1030 ∷ [])
  pub another_table : IsLegalTo 5 (one_change ++ Ticked 1030 ∷ Expired SOCKET_EVENTS 1 1030 ∷ [])
  pub tick_after_29 : IsLegal (one_change ++ Ticked 1029 ∷ Ticked 1030 ∷ []) (record one_value { position = 6; moment = 1030 })
  pub tick_while_owed : IsLegalTo 5 (one_change ++ Ticked 1030 ∷ Ticked 1031 ∷ [])
  pub crowded_out : IsLegal (five_changes ++ Expired FILE_EVENTS 2 1000 ∷ []) (record one_value {
    position = 5;
    last = 5;
    floors = 0 ∷ 0 ∷ 2 ∷ [];
    live = live_change 3 ∷ live_change 4 ∷ live_change 5 ∷ [];
    taken = record { source = log; offset = 460 } ∷ [];
  })
  pub one_too_many : IsLegalTo 4 (five_changes ++ Expired FILE_EVENTS 3 1000 ∷ [])
  pub acked_unknown : IsLegalTo 1 (Opened 1 1 ∷ Acked 1 ∷ [])

abbrev pub asked : QueryKey
asked = record { name = codes "q"; text = codes "SELECT * FROM file_events"; mode = Evented }

-- one query, which is asked each minute
abbrev pub asking : Schedule
asking = record { queries = record { key = asked; interval = 60 } ∷ []; events_expiry = 3600; events_max = 50000; form = form.Event }

abbrev pub before_batch : List Entry
before_batch = Opened 1 1 ∷ Configured [] asking 1000 ∷ Ticked 1000 ∷ Appended log 184 (change ∷ change ∷ []) 0 1000 ∷ []

-- the batch of the query that is cut after all of these entries
abbrev pub answer : Batch
answer = record { number = 1; query = asked; lo = 0; hi = 2; cut = 4; moment = 1000; rows = meaning asked.text (view_of before_batch 0 1000) }

abbrev pub answered : List Entry
answered = before_batch ++ Committed answer ∷ []

abbrev pub run_one : Run
run_one = record { key = asked; number = 1; hi = 2; moment = 1000; count = 1 }

abbrev pub answered_value : Restored
answered_value =
    record no_values {
      position = 5;
      sessions = 1;
      moment = 1000;
      last = 2;
      live = live_change 1 ∷ live_change 2 ∷ [];
      taken = record { source = log; offset = 184 } ∷ [];
      runs = run_one ∷ [];
      batches = 1;
    }

-- the batch after it, at a tick of this moment
abbrev pub second : ℕ → Batch
second moment =
    record { number = 2; query = asked; lo = 2; hi = 2; cut = 6; moment = moment; rows = meaning asked.text (view_of (answered ++ Ticked moment ∷ []) 2 moment) }

-- two changes that came behind the query's batch, old at the second tick, in a session by these rules
abbrev pub asking_first : ℕ → List Entry
asking_first rules = Opened 1 rules ∷ Configured [] (record asking { events_expiry = 30 }) 1000 ∷ Ticked 1000 ∷ []

abbrev pub answer_first : ℕ → Batch
answer_first rules = record answer { hi = 0; cut = 3; rows = meaning asked.text (view_of (asking_first rules) 0 1000) }

abbrev pub unread : ℕ → List Entry
unread rules = asking_first rules ++ Committed (answer_first rules) ∷ Appended log 184 (change ∷ change ∷ []) 0 1000 ∷ Ticked 1030 ∷ []

-- batches
pub record AskedVerdicts : Type 0 where
  pub tick_while_due : IsLegalTo 4 (before_batch ++ Ticked 1060 ∷ [])
  pub committed : IsLegal answered answered_value
  pub another_number : IsLegalTo 4 (before_batch ++ Committed (record answer { number = 2 }) ∷ [])
  pub another_lo : IsLegalTo 4 (before_batch ++ Committed (record answer { lo = 1 }) ∷ [])
  pub another_hi : IsLegalTo 4 (before_batch ++ Committed (record answer { hi = 1 }) ∷ [])
  pub another_moment : IsLegalTo 4 (before_batch ++ Committed (record answer { moment = 999 }) ∷ [])
  pub a_row_more : IsLegalTo 4 (before_batch ++ Committed (record answer { rows = [] ∷ meaning asked.text (view_of before_batch 0 1000) }) ∷ [])
  pub another_query : IsLegalTo 4 (before_batch ++ Committed (record answer { query = record asked { name = codes "r" } }) ∷ [])
  pub cut_before_tick : IsLegalTo 4 (before_batch ++ Committed (record answer { cut = 2; hi = 0 }) ∷ [])
  pub cut_past_end : IsLegalTo 4 (before_batch ++ Committed (record answer { cut = 5 }) ∷ [])
  pub not_due : IsLegalTo 5 (answered ++ Committed (second 1000) ∷ [])
  pub due_after_59 : IsLegalTo 6 (answered ++ Ticked 1059 ∷ Committed (second 1059) ∷ [])
  pub due_after_60 : IsLegal (answered ++ Ticked 1060 ∷ Committed (second 1060) ∷ []) (record answered_value {
    position = 7;
    moment = 1060;
    runs = record run_one { number = 2; moment = 1060; count = 2 } ∷ [];
    batches = 2;
  })
  pub acked : IsLegal (answered ++ Acked 1 ∷ []) (record answered_value { position = 6; acked = 1 })
  pub acked_above : IsLegalTo 5 (answered ++ Acked 2 ∷ [])
  pub acked_again : IsLegalTo 6 (answered ++ Acked 1 ∷ Acked 1 ∷ [])
  pub gone_unread : Legal (unread 1 ++ Expired FILE_EVENTS 2 1030 ∷ [])
  pub not_gone_unread : IsLegalTo 6 (unread 2 ++ Expired FILE_EVENTS 2 1030 ∷ [])

pub record Verdicts : Type 0 where
  pub plain : PlainVerdicts
  pub asked : AskedVerdicts
