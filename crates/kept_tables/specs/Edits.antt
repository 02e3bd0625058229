-- What a seal changes: its statements with their parameters, and the rows that each adds, replaces or removes.
use Rattle.std.specs.Prelude.{ℕ, ◌+◌, ◌-◌, pos, Bool, not, ◌&&◌, ◌==◌, nat_le, List, [], ◌∷◌, ◌++◌, length, map, filter, fold, slice_get, slice_set, unwrap_or}
use Rattle.std.specs.Fmt.{decimal}
use Rattle.result_batches.specs.Json.{array}
use Rattle.osq_value.specs.declared.value.Event.{Event}
use Rattle.osq_value.specs.declared.value.Value.{Value}
use Rattle.osq_value.specs.declared.value.TheConstants.TableId.{PROCESS_EVENTS, SOCKET_EVENTS, FILE_EVENTS}
use Rattle.pack_rules.specs.declared.schedule.QueryKey.{QueryKey}
use Rattle.entry_model.specs.declared.entry.Batch.{Batch}
use Rattle.entry_model.specs.declared.entry.Entry.{Entry}
use Rattle.entry_model.specs.declared.entry.Entry.TheVariants.{Opened, Configured, Ticked, Appended, TableSet, Expired, Committed, Acked}
use Rattle.entry_model.specs.declared.restored.Live.{Live}
use Rattle.entry_model.specs.declared.restored.Run.{Run}
use Rattle.entry_model.specs.declared.restored.SetTable.{SetTable}
use Rattle.entry_model.specs.declared.restored.Taken.{Taken}
use Rattle.entry_model.specs.Next.{with_offset, with_batch}
use Rattle.entry_model.specs.Values.{numbered}
use Rattle.kept_tables.specs.declared.changes.Change.{Change}
use Rattle.kept_tables.specs.declared.changes.Parameter.{Parameter}
use Rattle.kept_tables.specs.declared.changes.Parameter.TheVariants as given
use Rattle.kept_tables.specs.declared.changes.Statement.{Statement}
use Rattle.kept_tables.specs.declared.changes.Statement.TheVariants as statement
use Rattle.kept_tables.specs.declared.counts.Counts.{Counts}
use Rattle.kept_tables.specs.declared.live.LivePart.{LivePart}
use Rattle.kept_tables.specs.declared.lists.TheConstants.{FULL}
use Rattle.kept_tables.specs.declared.restoring.Found.{Found}
use Rattle.kept_tables.specs.Counting.{numbers_of}
use Rattle.kept_tables.specs.Groups.{groups}
use Rattle.kept_tables.specs.Lists.{opened}
use Rattle.kept_tables.specs.Rows.{row_text, mode_number, taken_row, run_row, set_row, live_row}

-- one statement, with what its parameters stand for
pub data Edit : Type 0 where
  write_counts : Counts → Edit
  add_configured : ℕ → Edit
  note_taken : List ℕ → ℕ → Edit
  add_events : LivePart → Edit
  expire : ℕ → ℕ → Edit
  unset : ℕ → Edit
  add_set_part : SetTable → Edit
  note_run : Batch → Edit
  add_batch : Batch → Edit
  add_batch_part : ℕ → ℕ → List (List Value) → Edit
  acknowledge : ℕ → Edit

-- what stands for a number, a list of rows, and a query's name and text
abbrev pub number : ℕ → Parameter
number n = given.Number (pos n)

abbrev pub rows_text : List (List Value) → List ℕ
rows_text rows = array (map row_text rows)

abbrev pub keyed : QueryKey → List Parameter
keyed key = given.Text key.name ∷ given.Text key.text ∷ []

abbrev pub change : Statement → List Parameter → Change
change statement parameters = record { statement = statement; parameters = parameters }

-- the last of the numbers of a part, which rise
abbrev pub last_in : List ℕ → ℕ
last_in numbers = unwrap_or (slice_get numbers (length numbers - 1)) 0

-- the statement and its parameters
abbrev pub spelled : Edit → Change
spelled (write_counts counts) = change statement.WriteCounts (map number (numbers_of counts))
spelled (add_configured place) = change statement.AddConfigured (number place ∷ [])
spelled (note_taken source offset) = change statement.NoteTaken (number offset ∷ given.Text source ∷ [])
spelled (add_events part) =
    change statement.AddEvents (number (last_in part.numbers) ∷ number part.table.0 ∷ number part.moment ∷ given.List (array (map decimal part.numbers)) ∷ given.List (rows_text part.rows) ∷ [])
spelled (expire table floor) = change statement.Expire (number table ∷ number floor ∷ [])
spelled (unset table) = change statement.Unset (number table ∷ [])
spelled (add_set_part part) = change statement.AddSetPart (number part.table.0 ∷ given.List (rows_text part.rows) ∷ [])
spelled (note_run batch) = change statement.NoteRun (number batch.number ∷ number batch.hi ∷ number batch.moment ∷ number (mode_number batch.query.mode) ∷ keyed batch.query)
spelled (add_batch batch) =
    change statement.AddBatch (number batch.number ∷ number batch.hi ∷ number batch.moment ∷ number batch.lo ∷ number batch.cut ∷ number (mode_number batch.query.mode) ∷ keyed batch.query)
spelled (add_batch_part place batch rows) = change statement.AddBatchPart (number place ∷ number batch ∷ given.List (rows_text rows) ∷ [])
spelled (acknowledge upto) = change statement.Acknowledge (number upto ∷ [])

-- the rows that a load reads, each table's in the order in which they were added
pub record Kept : Type 0 where
  pub counts : Counts
  pub live : List LivePart
  pub taken : List Taken
  pub set : List SetTable
  pub runs : List Run

-- the rows after a statement; a load reads nothing of what the last four change
abbrev pub made : Kept → Edit → Kept
made kept (write_counts counts) = record kept { counts = counts }
made kept (note_taken source offset) = record kept { taken = with_offset kept.taken source offset }
made kept (add_events part) = record kept { live = kept.live ++ part ∷ [] }
made kept (expire table floor) = record kept { live = filter (λ (part : LivePart). not (part.table.0 == table && nat_le (last_in part.numbers) floor)) kept.live }
made kept (unset table) = record kept { set = filter (λ (part : SetTable). not (part.table.0 == table)) kept.set }
made kept (add_set_part part) = record kept { set = kept.set ++ part ∷ [] }
made kept (note_run batch) = record kept { runs = with_batch kept.runs batch.query batch.number batch.hi batch.moment }
made kept (add_configured place) = kept
made kept (add_batch batch) = kept
made kept (add_batch_part place batch rows) = kept
made kept (acknowledge upto) = kept

abbrev pub all_made : Kept → List Edit → Kept
all_made = fold made

-- what the statements of a load show of these rows
abbrev pub found_in : Kept → Found
found_in kept = record { counts = kept.counts; live = map live_row kept.live; taken = map taken_row kept.taken; set = map set_row kept.set; runs = map run_row kept.runs }

-- rows whose text is long enough for one part
abbrev pub is_full : List (List Value) → Bool
is_full rows = nat_le FULL (length (opened (map row_text rows)))

abbrev pub rows_of : List Live → List (List Value)
rows_of events = map (λ (event : Live). event.row) events

abbrev pub event_groups : List Live → List (List Live)
event_groups = groups (λ (events : List Live). is_full (rows_of events))

-- these events of a table, as a part
abbrev pub live_part : ℕ → ℕ → List Live → LivePart
live_part table moment events = record { table = record { 0 = table }; moment = moment; numbers = map (λ (event : Live). event.number) events; rows = rows_of events }

-- those of a table
abbrev pub own : ℕ → List Live → List Live
own table events = filter (λ (event : Live). event.table.0 == table) events

abbrev pub event_edits : ℕ → List Live → ℕ → List Edit
event_edits moment events table = map (λ (group : List Live). add_events (live_part table moment group)) (event_groups (own table events))

-- the events of an entry, numbered behind this one
abbrev pub behind : ℕ → ℕ → List Event → List Live
behind last moment events = numbered (1 + last) (map (λ (event : Event). (moment, event)) events)

-- a table that is set to no rows has a part too
abbrev pub set_groups : List (List Value) → List (List (List Value))
set_groups [] = [] ∷ []
set_groups (row ∷ rows) = groups is_full (row ∷ rows)

abbrev pub set_edits : ℕ → List (List Value) → List Edit
set_edits table rows = map (λ (group : List (List Value)). add_set_part (record { table = record { 0 = table }; rows = group })) (set_groups rows)

-- the parts of a batch's rows, behind so many parts
abbrev pub part_edits : ℕ → ℕ → List (List (List Value)) → List Edit
part_edits before batch [] = []
part_edits before batch (group ∷ groups) = add_batch_part (before + 1) batch group ∷ part_edits (before + 1) batch groups

-- the counts at the next entry
abbrev pub next : Counts → Counts
next counts = record counts { position = counts.position + 1 }

-- the statements of an entry, by the counts at it
abbrev pub edits_of : Counts → Entry → List Edit
edits_of counts (Opened session rules) = []
edits_of counts (Configured document schedule moment) = add_configured counts.position ∷ []
edits_of counts (Ticked moment) = []
edits_of counts (Appended source taken events skipped moment) =
    note_taken source taken ∷ (event_edits moment (behind counts.last moment events) PROCESS_EVENTS.0 ++ event_edits moment (behind counts.last moment events) SOCKET_EVENTS.0 ++ event_edits moment (behind counts.last moment events) FILE_EVENTS.0)
edits_of counts (TableSet source table rows taken) = note_taken source taken ∷ unset table.0 ∷ set_edits table.0 rows
edits_of counts (Expired table floor moment) = expire table.0 floor ∷ []
edits_of counts (Committed batch) = note_run batch ∷ add_batch batch ∷ part_edits counts.parts batch.number (groups is_full batch.rows)
edits_of counts (Acked upto) = acknowledge upto ∷ []

-- the counts behind an entry, by those at it
abbrev pub counts_after : Counts → Entry → Counts
counts_after counts (Opened session rules) = record counts { sessions = counts.sessions + 1 }
counts_after counts (Configured document schedule moment) = record counts { moment = moment }
counts_after counts (Ticked moment) = record counts { moment = moment }
counts_after counts (Appended source taken events skipped moment) = record counts { last = counts.last + length events }
counts_after counts (TableSet source table rows taken) = counts
counts_after counts (Expired table floor moment) = record counts { floors = slice_set counts.floors table.0 floor }
counts_after counts (Committed batch) = record counts { batches = counts.batches + 1; parts = counts.parts + length (groups is_full batch.rows) }
counts_after counts (Acked upto) = record counts { acked = upto }

-- the statements of a seal of these entries over tables with these counts
abbrev pub seal_edits : Counts → List Entry → List Edit
seal_edits counts [] = write_counts counts ∷ []
seal_edits counts (entry ∷ rest) = edits_of (next counts) entry ++ seal_edits (counts_after (next counts) entry) rest
