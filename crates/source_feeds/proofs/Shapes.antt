-- Each reading of a source is one that a state may append.
use Rattle.std.proofs.Common.{◌≡◌, inl, inr, ℕ, ◌+◌, Bool, true, false, List, [], ◌∷◌, length, map, refl, sym, ap, subst, ◌∙◌, Option, Some, None, option_map, option_and_then, find}
use Rattle.std.specs.Prelude.{All}
use Rattle.std.specs.List.{AllZip}
use Rattle.std.specs.Option.{option_to_list}
use Rattle.std.proofs.lemmas.List.Elements.{All-nil, All-cons, All-append}
use Rattle.osq_value.specs.declared.reading.Category.{Category}
use Rattle.osq_value.specs.declared.reading.Reading.TheVariants as reading
use Rattle.osq_value.specs.declared.value.Event.{Event}
use Rattle.osq_value.specs.declared.value.TableId.{TableId}
use Rattle.osq_value.specs.declared.value.Value.{Value}
use Rattle.osq_value.specs.Catalogue.{width_of, columns_of, tables}
use Rattle.entry_model.specs.Legal.{IsEvent}
use Rattle.audit_records.specs.declared.address.Address.{Address}
use Rattle.audit_records.specs.declared.event.Call.{Call}
use Rattle.audit_records.specs.declared.event.Call.TheVariants.{Execution, Connect, Bind, Accept}
use Rattle.audit_records.specs.declared.line.AuditLine.{AuditLine}
use Rattle.audit_records.specs.Addresses.{address_in}
use Rattle.audit_records.specs.Events.{event_of, line_event, call_event, call_of, is_system_call, execution_event, process_event, located_event}
use Rattle.audit_records.specs.FieldValues.{has_succeeded}
use Rattle.change_records.specs.declared.change.Change.{Change}
use Rattle.change_records.specs.Events.{IsEventOf}
use Rattle.publisher_core.specs.declared.gathering.AuditRecord.{AuditRecord}
use Rattle.publisher_core.specs.declared.record.Gain.{Gain}
use Rattle.publisher_core.specs.declared.record.Gain.TheVariants as gain
use Rattle.publisher_core.specs.declared.record.ReadRecord.{ReadRecord}
use Rattle.osq_value.specs.declared.source.SourceKind.{SourceKind}
use Rattle.osq_value.specs.declared.source.SourceKind.TheVariants.{Audit, Changes, Tables}
use Rattle.publisher_core.specs.Audit.{IsPieceOf, event_in}
use Rattle.publisher_core.specs.Records.{LinesGive, ChangeGives, TableGives}
use Rattle.publisher_core.specs.Readings.{events_in, events_of, joined, reading_of, readings_of}
use Rattle.publisher_core.specs.Standing.{Gives}
use Rattle.source_feeds.specs.Readings.{IsReading}
use Rattle.source_feeds.proofs.Lasts.{joined_last}
use Rattle.source_feeds.proofs.Splits.{has_last}
use Rattle.source_feeds.proofs.TableLines.{line_table}

width-process : width_of 0 ≡ 12
unfolding width_of columns_of tables
width-process = refl

width-socket : width_of 1 ≡ 13
unfolding width_of columns_of tables
width-socket = refl

width-files : width_of 2 ≡ 10
unfolding width_of columns_of tables
width-files = refl

-- every event that is there has a table and its width
abbrev IsGood : Option Event → Type 0
IsGood None = Unit {0}
IsGood (Some event) = IsEvent event

good_process : (line : AuditLine) (lines : List AuditLine) → IsEvent (process_event line lines)
good_process line lines = record { evented = refl; wide = sym width-process }

good_socket : (action : List ℕ) (is_local : Bool) (line : AuditLine) (found : Address) → IsEvent (located_event action is_local line found)
good_socket action true line found = record { evented = refl; wide = sym width-socket }
good_socket action false line found = record { evented = refl; wide = sym width-socket }

good_execution : (succeeded : Bool) (line : AuditLine) (lines : List AuditLine) → has_succeeded line ≡ succeeded → IsGood (execution_event line lines)
good_execution true line lines is = rw is (good_process line lines)
good_execution false line lines is = rw is tt

good_located : (action : List ℕ) (is_local : Bool) (line : AuditLine) (found : Option Address) → IsGood (option_map (located_event action is_local line) found)
good_located action is_local line None = tt
good_located action is_local line (Some found) = good_socket action is_local line found

good_call : (call : Call) (line : AuditLine) (lines : List AuditLine) → IsGood (call_event call line lines)
good_call Execution line lines = good_execution (has_succeeded line) line lines refl
good_call Connect line lines = good_located _ false line (address_in lines)
good_call Bind line lines = good_located _ true line (address_in lines)
good_call Accept line lines = good_located _ false line (address_in lines)

good_line : (call : Option Call) (line : AuditLine) (lines : List AuditLine) → IsGood (option_and_then (λ c. call_event c line lines) call)
good_line None line lines = tt
good_line (Some call) line lines = good_call call line lines

good_found : (found : Option AuditLine) (lines : List AuditLine) → IsGood (option_and_then (λ line. line_event line lines) found)
good_found None lines = tt
good_found (Some line) lines = good_line (call_of line) line lines

good_group : (lines : List AuditLine) → IsGood (event_of lines)
unfolding event_of
good_group lines = good_found (find is_system_call lines) lines

good_in : (group : Option (List AuditLine)) → IsGood (event_in group)
good_in None = tt
good_in (Some group) = good_group group

good_change : (change : Change) (paths : List Category) (event : Option Event) → IsEventOf change paths event → IsGood event
good_change change paths None is = tt
good_change change paths (Some event) is = subst IsEvent (sym is.2) (record { evented = refl; wide = sym width-files })

good_list : (event : Option Event) → IsGood event → All IsEvent (option_to_list event)
good_list None good = All-nil IsEvent
good_list (Some event) good = All-cons IsEvent event [] good (All-nil IsEvent)

abbrev HasGood : ReadRecord → Type 0
HasGood piece = All IsEvent (events_in piece.gain)

all_good : (piece : ReadRecord) (pieces : List ReadRecord) → HasGood piece → All IsEvent (events_of pieces) → All IsEvent (events_of (piece ∷ pieces))
all_good piece pieces good rest = All-append IsEvent (events_in piece.gain) (events_of pieces) good rest

good_gain : (paths : List Category) (line : List ℕ) (piece : ReadRecord) → ChangeGives paths line piece.gain → HasGood piece
good_gain paths line piece (inl given) = subst (λ (g : Gain). All IsEvent (events_in g)) (sym given.4) (good_list given.1 (good_change given.0 paths given.1 given.3))
good_gain paths line piece (inr skipped) = subst (λ (g : Gain). All IsEvent (events_in g)) (sym skipped.1) (All-nil IsEvent)

good_changes : (paths : List Category) (start : ℕ) (lines : List (List ℕ)) (pieces : List ReadRecord) → LinesGive (ChangeGives paths) start lines pieces → All IsEvent (events_of pieces)
good_changes paths start [] [] gives = All-nil IsEvent
good_changes paths start [] (piece ∷ pieces) gives = absurd gives
good_changes paths start (line ∷ lines) [] gives = absurd gives
good_changes paths start (line ∷ lines) (piece ∷ pieces) gives = all_good piece pieces (good_gain paths line piece gives.0) (good_changes paths (start + length line + 1) lines pieces gives.2)

good_records : (records : List AuditRecord) (pieces : List ReadRecord) → AllZip IsPieceOf records pieces → All IsEvent (events_of pieces)
good_records [] [] zip = All-nil IsEvent
good_records [] (piece ∷ pieces) zip = absurd zip
good_records (made ∷ records) [] zip = absurd zip
good_records (made ∷ records) (piece ∷ pieces) zip =
    all_good piece pieces (subst HasGood (sym zip.0) (good_list (event_in made.group) (good_in made.group))) (good_records records pieces zip.1)

-- each record of table lines gives a good reading
good_table : (line : List ℕ) (piece : ReadRecord) → TableGives line piece.gain → IsReading (reading_of piece)
good_table line piece gives = by_gain piece.gain refl gives where
  by_gain : (given : Gain) → piece.gain ≡ given → TableGives line given → IsReading (reading_of (record piece { gain = given }))
  by_gain (gain.Event event skipped) is (inl table_gives) = absurd (let no : ⊥ = (let e = table_gives.3 in cc) in no)
  by_gain (gain.Event event skipped) is (inr skips) =
      let none : event ≡ None = (let e : gain.Event event skipped ≡ gain.Event None 1 = skips.1 in cc) in
      subst (λ (found : Option Event). All IsEvent (option_to_list found)) (sym none) (All-nil IsEvent)
  by_gain (gain.Table table rows) is (inl table_gives) =
      let line_is = table_gives.2 in
      let good = line_table line_is.value line_is.offset table_gives.0 table_gives.1 line_is.form in
      let same : gain.Table table rows ≡ gain.Table table_gives.0 table_gives.1 = table_gives.3 in
      let same_table : table_gives.0 ≡ table = cc in
      let same_rows : table_gives.1 ≡ rows = cc in
      subst (λ (t : TableId). IsReading (reading.Table piece.end t rows)) same_table
      (subst (λ (rs : List (List Value)). IsReading (reading.Table piece.end table_gives.0 rs)) same_rows good)
  by_gain (gain.Table table rows) is (inr skipped) = absurd (let no : ⊥ = (let e = skipped.1 in cc) in no)

good_tables : (start : ℕ) (lines : List (List ℕ)) (pieces : List ReadRecord) → LinesGive TableGives start lines pieces → All IsReading (map reading_of pieces)
good_tables start [] [] gives = All-nil IsReading
good_tables start [] (piece ∷ pieces) gives = absurd gives
good_tables start (line ∷ lines) [] gives = absurd gives
good_tables start (line ∷ lines) (piece ∷ pieces) gives =
    All-cons IsReading (reading_of piece) (map reading_of pieces) (good_table line piece gives.0) (good_tables (start + length line + 1) lines pieces gives.2)

-- the one reading of some records is good where their events are
good_joined : (pieces : List ReadRecord) → All IsEvent (events_of pieces) → All IsReading (joined pieces)
good_joined [] all = All-nil IsReading
good_joined (first ∷ pieces) all =
    let last = has_last first pieces in
    let one = ap joined last.2 ∙ joined_last last.0 last.1 in
    subst (All IsReading) (sym one) (All-cons IsReading _ [] (subst (λ (ps : List ReadRecord). All IsEvent (events_of ps)) last.2 all) (All-nil IsReading))

-- the readings of lines are good ones
pub good_readings : (kind : SourceKind) (paths : List Category) (start : ℕ) (lines : List (List ℕ)) (pieces : List ReadRecord) → Gives kind paths start lines pieces → All IsReading (readings_of kind pieces)
good_readings Audit paths start lines pieces gives = good_joined pieces (good_records gives.records pieces gives.each)
good_readings Changes paths start lines pieces gives = good_joined pieces (good_changes paths start lines pieces gives)
good_readings Tables paths start lines pieces gives = good_tables start lines pieces gives
