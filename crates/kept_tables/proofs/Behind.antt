-- The rows of the tables behind a seal.
use Rattle.std.proofs.Common.{◌≡◌, ℕ, ◌+◌, ◌<◌, ◌≤◌, ◌^◌, true, List, [], ◌∷◌, ◌++◌, length, map, refl, sym, subst, ap, ◌∙◌, append_assoc, arith}
use Rattle.std.specs.Prelude.{filter, fold, not, ◌==◌, slice_index, slice_set}
use Rattle.std.specs.List.{AllByRecursion}
use Rattle.std.proofs.lemmas.Bool.Decides.{nat_tests}
use Rattle.std.proofs.lemmas.List.{append-nil}
use Rattle.std.proofs.lemmas.List.Elements.{filter-append}
use Rattle.std.proofs.lemmas.List.Sums.{fold-append}
use Rattle.osq_value.specs.declared.value.Event.{Event}
use Rattle.osq_value.specs.declared.value.Value.{Value}
use Rattle.batch_frames.specs.Texts.{IsHeldValue}
use Rattle.entry_model.specs.declared.entry.Entry.{Entry}
use Rattle.entry_model.specs.declared.entry.Entry.TheVariants.{Opened, Configured, Ticked, Appended, TableSet, Expired, Committed, Acked}
use Rattle.entry_model.specs.declared.restored.Live.{Live}
use Rattle.entry_model.specs.declared.restored.Restored.{Restored}
use Rattle.entry_model.specs.declared.restored.Run.{Run}
use Rattle.entry_model.specs.declared.restored.SetTable.{SetTable}
use Rattle.entry_model.specs.declared.restored.Taken.{Taken}
use Rattle.entry_model.specs.Fits.{IsRisingFrom}
use Rattle.entry_model.specs.Legal.{Follow, Legal, LegalNext}
use Rattle.entry_model.specs.Next.{restored_next, with_batch, with_offset}
use Rattle.entry_model.specs.Summary.{summary}
use Rattle.entry_model.specs.Values.{floor_of, last_number}
use Rattle.entry_model.specs.Views.{is_evented_table}
use Rattle.entry_model.proofs.Fitting.{rising_numbers}
use Rattle.entry_model.proofs.Floors.{owed_rises}
use Rattle.entry_model.proofs.Follows.{Legal-push}
use Rattle.entry_model.proofs.Nexts.{floor_known, next_is}
use Rattle.entry_model.proofs.Summaries.{floor_is}
use Rattle.kept_tables.specs.declared.counts.Counts.{Counts}
use Rattle.kept_tables.specs.declared.live.LivePart.{LivePart}
use Rattle.kept_tables.specs.Edits.{Kept, add_events, add_set_part, all_made, behind, counts_after, edits_of, event_edits, is_full, live_part, made, next, own, part_edits, seal_edits, set_groups}
use Rattle.kept_tables.specs.Groups.{groups}
use Rattle.kept_tables.specs.Keeps.{IsBounded, IsHeldEntry, Keeps, KeepsLive, KeepsRows, SealKeeps}
use Rattle.kept_tables.specs.Loads.{events_in}
use Rattle.kept_tables.specs.Rows.{IsLivePart}
use Rattle.kept_tables.specs.Shows.{ShowsCounts}
use Rattle.kept_tables.proofs.Cutting.{all_both}
use Rattle.kept_tables.proofs.Expiring.{expired}
use Rattle.kept_tables.proofs.Keeping.{AreParts, all_in, are_parts, new_events, new_in, own_first, own_second, own_third, parts_of, with_parts}
use Rattle.kept_tables.proofs.Setting.{held_now, set_part, tables_now}

-- ---- what several statements make

add_all : (kept : Kept) (table moment : ℕ) (gs : List (List Live)) → fold made kept (map (λ (group : List Live). add_events (live_part table moment group)) gs) ≡ record kept { live = kept.live ++ map (live_part table moment) gs }
add_all kept table moment [] = λ i. record kept { live = sym (append-nil kept.live) i }
add_all kept table moment (g ∷ gs) =
    add_all (record kept { live = kept.live ++ live_part table moment g ∷ [] }) table moment gs
    ∙ (λ i. record kept { live = append_assoc kept.live (live_part table moment g ∷ []) (map (live_part table moment) gs) i })

add_three : (kept : Kept) (moment : ℕ) (events : List Live) → fold made kept (event_edits moment events 0 ++ event_edits moment events 1 ++ event_edits moment events 2) ≡ record kept { live = with_parts moment events kept.live }
add_three kept moment events =
    let edits = event_edits moment events in
    let first = record kept { live = kept.live ++ parts_of 0 moment events } in
    let second = record kept { live = kept.live ++ parts_of 0 moment events ++ parts_of 1 moment events } in
    fold-append made kept (edits 0 ++ edits 1) (edits 2)
    ∙ ap (λ (k : Kept). fold made k (edits 2)) (fold-append made kept (edits 0) (edits 1) ∙ ap (λ (k : Kept). fold made k (edits 1)) (add_all kept 0 moment _) ∙ add_all first 1 moment _)
    ∙ add_all second 2 moment _

add_sets : (kept : Kept) (table : ℕ) (gs : List (List (List Value))) → fold made kept (map (λ (group : List (List Value)). add_set_part (record { table = record { 0 = table }; rows = group })) gs) ≡ record kept { set = kept.set ++ map (set_part table) gs }
add_sets kept table [] = λ i. record kept { set = sym (append-nil kept.set) i }
add_sets kept table (g ∷ gs) =
    add_sets (record kept { set = kept.set ++ set_part table g ∷ [] }) table gs
    ∙ (λ i. record kept { set = append_assoc kept.set (set_part table g ∷ []) (map (set_part table) gs) i })

add_no_rows : (kept : Kept) (before batch : ℕ) (gs : List (List (List Value))) → fold made kept (part_edits before batch gs) ≡ kept
add_no_rows kept before batch [] = refl
add_no_rows kept before batch (g ∷ gs) = add_no_rows kept (before + 1) batch gs

-- ---- the events of an entry

module _ (K : List Entry) (legal : Legal K) (moment : ℕ) (events : List Event) (room : last_number K + length events ≤ 2 ^ 62) (held : AllByRecursion (λ (event : Event). AllByRecursion IsHeldValue event.row) events) where
  abbrev new : List Live
  new = behind (last_number K) moment events

  low : (table : ℕ) → slice_index (summary K).floors table ≤ last_number K
  low table = let is = floor_is K legal table in let known = floor_known K legal table in omega (arith, is, known)

  rising : IsRisingFrom (last_number K) new
  rising = rising_numbers (1 + last_number K) (last_number K) (map (λ (event : Event). (moment, event)) events) (omega arith)

  parts : (table : ℕ) → is_evented_table table ≡ true → AreParts table moment new
  parts table evented = are_parts table moment (last_number K) evented new (new_events moment (1 + last_number K) events (omega (arith, room)) held) rising

  abbrev floors : List ℕ
  floors = (summary K).floors

  pub appended : (old : List LivePart) (live : List Live) → KeepsLive floors old live → KeepsLive floors (with_parts moment new old) (live ++ new)
  appended old live keeps =
      let zeroth = parts 0 refl in
      let first = parts 1 refl in
      let second = parts 2 refl in
      let at = new_in floors (last_number K) in
      let all = all_in floors moment new old (at 0 moment low new rising zeroth) (at 1 moment low new rising first) (at 2 moment low new rising second) in
      let both = λ (P : LivePart → Type 0) (a : AllByRecursion P old) (b : AllByRecursion P (parts_of 0 moment new)) (c : AllByRecursion P (parts_of 1 moment new)) (d : AllByRecursion P (parts_of 2 moment new)).
      all_both P (old ++ parts_of 0 moment new ++ parts_of 1 moment new) (parts_of 2 moment new) (all_both P (old ++ parts_of 0 moment new) (parts_of 1 moment new) (all_both P old (parts_of 0 moment new) a b) c) d in
      record {
        held = both IsLivePart keeps.held zeroth.held first.held second.held;
        bounded = both IsBounded keeps.bounded zeroth.bounded first.bounded second.bounded;
        processes = ap (own 0) all ∙ own_first (events_in floors old) new ∙ joined_to 0 keeps.processes;
        sockets = ap (own 1) all ∙ own_second (events_in floors old) new ∙ joined_to 1 keeps.sockets;
        files = ap (own 2) all ∙ own_third (events_in floors old) new ∙ joined_to 2 keeps.files;
      }
    where
      joined_to : (table : ℕ) → own table (events_in floors old) ≡ own table live → own table (events_in floors old ++ new) ≡ own table (live ++ new)
      joined_to table same =
          let is_own = λ (event : Live). event.table.0 == table in
          filter-append is_own (events_in floors old) new ∙ ap (λ (es : List Live). es ++ own table new) same ∙ sym (filter-append is_own live new)

-- ---- one entry

within : (table : ℕ) → is_evented_table table ≡ true → table < 3
within table evented = grind (arith, nat_tests, evented)

low_floor : (K : List Entry) → Legal K → (table floor : ℕ) → floor_of K table < floor → slice_index (summary K).floors table ≤ floor
low_floor K legal table floor rises = let is = floor_is K legal table in omega (arith, is, rises)

rows_after : (K : List Entry) → Legal K → (e : Entry) → LegalNext K e → IsHeldEntry e → (counts : Counts) → counts.last ≡ last_number K → (kept : Kept) → KeepsRows kept (summary K) → KeepsRows (all_made kept (edits_of counts e)) (restored_next (summary K) e)
rows_after K legal (Opened session rules) may held counts at kept h = record { live = h.live; taken = h.taken; held = h.held; tables = h.tables; runs = h.runs }
rows_after K legal (Configured document schedule moment) may held counts at kept h = record { live = h.live; taken = h.taken; held = h.held; tables = h.tables; runs = h.runs }
rows_after K legal (Ticked moment) may held counts at kept h = record { live = h.live; taken = h.taken; held = h.held; tables = h.tables; runs = h.runs }
rows_after K legal (Acked upto) may held counts at kept h = record { live = h.live; taken = h.taken; held = h.held; tables = h.tables; runs = h.runs }
rows_after K legal (Appended source taken events skipped moment) may held counts at kept h =
    let noted = record kept { taken = with_offset kept.taken source taken } in
    let live = appended K legal moment events may.3 held kept.live (summary K).live h.live in
    subst (λ (last : ℕ). KeepsRows (fold made noted (event_edits moment (behind last moment events) 0 ++ event_edits moment (behind last moment events) 1 ++ event_edits moment (behind last moment events) 2)) (restored_next (summary K) (Appended source taken events skipped moment))) (sym at)
    (subst (λ (k : Kept). KeepsRows k (restored_next (summary K) (Appended source taken events skipped moment))) (sym (add_three noted moment (behind (last_number K) moment events)))
    (record { live = live; taken = ap (λ (ts : List Taken). with_offset ts source taken) h.taken; held = h.held; tables = h.tables; runs = h.runs }))
rows_after K legal (TableSet source table rows taken) may held counts at kept h =
    let noted = record kept { taken = with_offset kept.taken source taken; set = filter (λ (part : SetTable). not (part.table.0 == table.0)) kept.set } in
    subst (λ (k : Kept). KeepsRows k (restored_next (summary K) (TableSet source table rows taken))) (sym (add_sets noted table.0 (set_groups rows)))
    (record {
      live = h.live;
      taken = ap (λ (ts : List Taken). with_offset ts source taken) h.taken;
      held = held_now table.0 kept.set rows may.1 held h.held;
      tables = tables_now table.0 kept.set rows (summary K).tables h.tables;
      runs = h.runs;
    })
rows_after K legal (Expired table floor moment) may held counts at kept h = record {
  live = expired (summary K).floors table.0 floor (within table.0 may.0) (low_floor K legal table.0 floor (owed_rises K table.0 floor may.1)) kept.live (summary K).live h.live;
  taken = h.taken;
  held = h.held;
  tables = h.tables;
  runs = h.runs;
}
rows_after K legal (Committed batch) may held counts at kept h =
    let noted = record kept { runs = with_batch kept.runs batch.query batch.number batch.hi batch.moment } in
    subst (λ (k : Kept). KeepsRows k (restored_next (summary K) (Committed batch))) (sym (add_no_rows noted counts.parts batch.number (groups is_full batch.rows)))
    (record { live = h.live; taken = h.taken; held = h.held; tables = h.tables; runs = ap (λ (rs : List Run). with_batch rs batch.query batch.number batch.hi batch.moment) h.runs })

counts_now : (counts : Counts) (r : Restored) (e : Entry) → ShowsCounts counts r → ShowsCounts (counts_after (next counts) e) (restored_next r e)
counts_now counts r (Opened session rules) h = record { position = ap (λ (n : ℕ). n + 1) h.position; sessions = ap (λ (n : ℕ). n + 1) h.sessions; moment = h.moment; last = h.last; floors = h.floors; batches = h.batches; acked = h.acked }
counts_now counts r (Configured document schedule moment) h = record { position = ap (λ (n : ℕ). n + 1) h.position; sessions = h.sessions; moment = refl; last = h.last; floors = h.floors; batches = h.batches; acked = h.acked }
counts_now counts r (Ticked moment) h = record { position = ap (λ (n : ℕ). n + 1) h.position; sessions = h.sessions; moment = refl; last = h.last; floors = h.floors; batches = h.batches; acked = h.acked }
counts_now counts r (Appended source taken events skipped moment) h = record { position = ap (λ (n : ℕ). n + 1) h.position; sessions = h.sessions; moment = h.moment; last = ap (λ (n : ℕ). n + length events) h.last; floors = h.floors; batches = h.batches; acked = h.acked }
counts_now counts r (TableSet source table rows taken) h = record { position = ap (λ (n : ℕ). n + 1) h.position; sessions = h.sessions; moment = h.moment; last = h.last; floors = h.floors; batches = h.batches; acked = h.acked }
counts_now counts r (Expired table floor moment) h = record { position = ap (λ (n : ℕ). n + 1) h.position; sessions = h.sessions; moment = h.moment; last = h.last; floors = ap (λ (fs : List ℕ). slice_set fs table.0 floor) h.floors; batches = h.batches; acked = h.acked }
counts_now counts r (Committed batch) h = record { position = ap (λ (n : ℕ). n + 1) h.position; sessions = h.sessions; moment = h.moment; last = h.last; floors = h.floors; batches = ap (λ (n : ℕ). n + 1) h.batches; acked = h.acked }
counts_now counts r (Acked upto) h = record { position = ap (λ (n : ℕ). n + 1) h.position; sessions = h.sessions; moment = h.moment; last = h.last; floors = h.floors; batches = h.batches; acked = refl }

-- ---- all entries

-- by the counts that a seal has come to, which it writes at its end
all_after : (K entries : List Entry) (counts : Counts) (kept : Kept) → Legal K → Follow K entries → AllByRecursion IsHeldEntry entries → ShowsCounts counts (summary K) → KeepsRows kept (summary K) → Keeps (all_made kept (seal_edits counts entries)) (summary (K ++ entries))
all_after K [] counts kept legal follow held counted h =
    subst (λ (es : List Entry). Keeps (record kept { counts = counts }) (summary es)) (sym (append-nil K))
    (record { counts = counted; rows = record { live = h.live; taken = h.taken; held = h.held; tables = h.tables; runs = h.runs } })
all_after K (e ∷ entries) counts kept legal follow held counted h =
    let edits = edits_of (next counts) e in
    let is = next_is K legal e follow.0 in
    let rows = subst (KeepsRows (all_made kept edits)) (sym is) (rows_after K legal e follow.0 held.0 (next counts) counted.last kept h) in
    let now = subst (ShowsCounts (counts_after (next counts) e)) (sym is) (counts_now counts (summary K) e counted) in
    let rest = all_after (K ++ e ∷ []) entries (counts_after (next counts) e) (all_made kept edits) (Legal-push K e legal follow.0) follow.1 held.1 now rows in
    subst (λ (es : List Entry). Keeps (all_made kept (edits ++ seal_edits (counts_after (next counts) e) entries)) (summary es)) (append_assoc K (e ∷ []) entries)
    (subst (λ (k : Kept). Keeps k (summary (K ++ e ∷ [] ++ entries))) (sym (fold-append made kept edits (seal_edits (counts_after (next counts) e) entries))) rest)

pub seal_keeps : SealKeeps
seal_keeps before entries kept legal follow held keeps = all_after before entries kept.counts kept legal follow held keeps.counts keeps.rows
