-- The values by given floors, one entry at a time.
use Rattle.std.proofs.Common.{◌≡◌, ℕ, ◌+◌, ◌<◌, List, [], ◌∷◌, ◌++◌, length, map, take, get_or, refl, sym, ap, ◌∙◌, length-append, None}
use Rattle.std.specs.Prelude.{filter, filter_map, flat_map}
use Rattle.std.proofs.lemmas.List.{append-nil, length-map, take_more}
use Rattle.std.proofs.lemmas.List.Elements.{filter-append}
use Rattle.std.proofs.lemmas.List.Concat.{flat_map-append}
use Rattle.osq_value.specs.declared.value.Event.{Event}
use Rattle.osq_value.specs.declared.value.TableId.{TableId}
use Rattle.entry_model.specs.declared.entry.Entry.{Entry}
use Rattle.entry_model.specs.declared.entry.Entry.TheVariants.{Opened, Configured, Ticked, Appended, TableSet, Expired, Committed, Acked}
use Rattle.entry_model.specs.declared.restored.Live.{Live}
use Rattle.entry_model.specs.declared.restored.Restored.{Restored}
use Rattle.entry_model.specs.Values.{numbered, all_events, last_number, events_in, is_above, rows_in, taken_in, moment_in, acked_in}
use Rattle.entry_model.specs.Summary.{set_table, recorded_tables, summary}
use Rattle.entry_model.specs.Next.{restored_next}
use Rattle.entry_model.proofs.Lasts.{last_of-append, numbered-append}
use Rattle.entry_model.proofs.Nexts.{quiet_sessions, quiet_events, quiet_commits, quiet_sources, runs_by, taken_path, opened_next_is, configured_next_is, ticked_next_is, table_set_next_is, committed_next_is, acked_next_is}
use Rattle.entry_summary.specs.Under.{added_above, summary_under, next_under}

-- these values, but with these floors and live events
abbrev with_floors : (ℕ → ℕ) → List Live → Restored → Restored
with_floors floor live r = record r { floors = floor 0 ∷ floor 1 ∷ floor 2 ∷ []; live = live }

-- the events that are above the floors, where no more were appended
still_above : (floor : ℕ → ℕ) (K : List Entry) (e : Entry) → flat_map events_in (e ∷ []) ≡ [] → filter (is_above floor) (all_events (K ++ e ∷ [])) ≡ filter (is_above floor) (all_events K)
still_above floor K e quiet = ap (λ (es : List (ℕ × Event)). filter (is_above floor) (numbered 1 es)) (quiet_events K e quiet)

quiet_next : (floor : ℕ → ℕ) (K : List Entry) (e : Entry) → flat_map events_in (e ∷ []) ≡ [] → summary (K ++ e ∷ []) ≡ restored_next (summary K) e → summary_under floor (K ++ e ∷ []) ≡ with_floors floor (filter (is_above floor) (all_events K)) (restored_next (summary K) e)
quiet_next floor K e quiet next = λ i. with_floors floor (still_above floor K e quiet i) (next i)

expired_next : (floor : ℕ → ℕ) (K : List Entry) (table : TableId) (reached moment : ℕ) → summary_under floor (K ++ Expired table reached moment ∷ []) ≡ next_under floor (summary_under floor K) (Expired table reached moment)
expired_next floor K table reached moment =
    let e = Expired table reached moment in
    λ i. record {
      position = length-append K (e ∷ []) i;
      sessions = quiet_sessions K e refl i;
      moment = last_of-append moment_in 0 K (e ∷ []) i;
      last = length (quiet_events K e refl i);
      floors = floor 0 ∷ floor 1 ∷ floor 2 ∷ [];
      live = still_above floor K e refl i;
      taken = map (λ (source : List ℕ). record { source = source; offset = last_of-append (taken_in source) 0 K (e ∷ []) i }) (quiet_sources K e refl i);
      tables = filter_map (λ (table : ℕ). set_table table (last_of-append (rows_in table) None K (e ∷ []) i)) recorded_tables;
      runs = runs_by (quiet_commits K e refl i);
      batches = length (quiet_commits K e refl i);
      acked = last_of-append acked_in 0 K (e ∷ []) i;
    }

appended_next : (floor : ℕ → ℕ) (K : List Entry) (source : List ℕ) (taken : ℕ) (events : List Event) (skipped moment : ℕ) → summary_under floor (K ++ Appended source taken events skipped moment ∷ []) ≡ next_under floor (summary_under floor K) (Appended source taken events skipped moment)
appended_next floor K source taken events skipped moment =
    let e = Appended source taken events skipped moment in
    let stamped : List (ℕ × Event) = map (λ (event : Event). (moment, event)) events in
    let given : flat_map events_in (K ++ e ∷ []) ≡ flat_map events_in K ++ stamped = flat_map-append events_in K (e ∷ []) ∙ ap (λ (es : List (ℕ × Event)). flat_map events_in K ++ es) (append-nil stamped) in
    let last : last_number (K ++ e ∷ []) ≡ last_number K + length events = ap length given ∙ length-append (flat_map events_in K) stamped ∙ ap (λ (n : ℕ). last_number K + n) (length-map events (λ (event : Event). (moment, event))) in
    let above : filter (is_above floor) (all_events (K ++ e ∷ [])) ≡ filter (is_above floor) (all_events K) ++ added_above floor (last_number K) moment events =
    ap (λ (es : List (ℕ × Event)). filter (is_above floor) (numbered 1 es)) given ∙ ap (filter (is_above floor)) (numbered-append 1 (flat_map events_in K) stamped) ∙ filter-append (is_above floor) (all_events K) (numbered (1 + last_number K) stamped) in
    let offsets = taken_path K e source taken refl (λ s. refl) in
    λ i. record {
      position = length-append K (e ∷ []) i;
      sessions = quiet_sessions K e refl i;
      moment = last_of-append moment_in 0 K (e ∷ []) i;
      last = last i;
      floors = floor 0 ∷ floor 1 ∷ floor 2 ∷ [];
      live = above i;
      taken = offsets i;
      tables = filter_map (λ (table : ℕ). set_table table (last_of-append (rows_in table) None K (e ∷ []) i)) recorded_tables;
      runs = runs_by (quiet_commits K e refl i);
      batches = length (quiet_commits K e refl i);
      acked = last_of-append acked_in 0 K (e ∷ []) i;
    }

-- each entry changes the values by itself, whatever stands in the list
pub under_next : (floor : ℕ → ℕ) (K : List Entry) (e : Entry) → summary_under floor (K ++ e ∷ []) ≡ next_under floor (summary_under floor K) e
under_next floor K (Opened session rules) = quiet_next floor K (Opened session rules) refl (opened_next_is K session rules)
under_next floor K (Configured document schedule moment) = quiet_next floor K (Configured document schedule moment) refl (configured_next_is K document schedule moment)
under_next floor K (Ticked moment) = quiet_next floor K (Ticked moment) refl (ticked_next_is K moment)
under_next floor K (Appended source taken events skipped moment) = appended_next floor K source taken events skipped moment
under_next floor K (TableSet source table rows taken) = quiet_next floor K (TableSet source table rows taken) refl (table_set_next_is K source table rows taken)
under_next floor K (Expired table reached moment) = expired_next floor K table reached moment
under_next floor K (Committed batch) = quiet_next floor K (Committed batch) refl (committed_next_is K batch)
under_next floor K (Acked upto) = quiet_next floor K (Acked upto) refl (acked_next_is K upto)

pub one_more : (floor : ℕ → ℕ) (entries : List Entry) (i : ℕ) (entry : Entry) (before after : Restored) → i < length entries → entry ≡ get_or entries i entry
    → before ≡ summary_under floor (take i entries) → after ≡ next_under floor before entry → after ≡ summary_under floor (take (i + 1) entries)
one_more floor entries i entry before after within is so_far next =
    let more : take (i + 1) entries ≡ take i entries ++ entry ∷ [] = take_more entries i entry within ∙ ap (λ e. take i entries ++ e ∷ []) (sym is) in
    next ∙ ap (λ r. next_under floor r entry) so_far ∙ sym (under_next floor (take i entries) entry) ∙ ap (summary_under floor) (sym more)
