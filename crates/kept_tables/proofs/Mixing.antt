-- The live events of all tables, and what rows of a legal list show.
use Rattle.std.proofs.Common.{◌≡◌, ℕ, zero, suc, true, cond, List, [], ◌∷◌, ◌++◌, map, refl, sym, subst, ap, arith}
use Rattle.std.specs.Prelude.{flat_map, ◌==◌, slice_index, zip}
use Rattle.std.specs.List.{AllByRecursion}
use Rattle.std.specs.List.Sorted.{IsPermutation}
use Rattle.std.proofs.lemmas.Bool.Decides.{nat_tests}
use Rattle.std.proofs.lemmas.List.Elements.{recursion_from_All}
use Rattle.std.proofs.lemmas.List.Sorted.{IsPermutation-refl, IsPermutation-sym, IsPermutation-trans, IsPermutation-cons, IsPermutation-middle, IsPermutation-append_left}
use Rattle.osq_value.specs.declared.value.TableId.{TableId}
use Rattle.osq_value.specs.declared.value.Value.{Value}
use Rattle.entry_model.specs.declared.restored.Live.{Live}
use Rattle.entry_model.specs.Fits.{LiveFits}
use Rattle.entry_model.specs.Summary.{summary}
use Rattle.entry_model.specs.Values.{is_above}
use Rattle.entry_model.specs.Views.{is_evented_table}
use Rattle.entry_model.proofs.Fitting.{fits}
use Rattle.kept_tables.specs.declared.live.LivePart.{LivePart}
use Rattle.kept_tables.specs.Edits.{own}
use Rattle.kept_tables.specs.Keeps.{Begins, KeepsLive, KeptShows}
use Rattle.kept_tables.specs.Loads.{event_of, events_in, events_of}
use Rattle.kept_tables.specs.Rows.{IsLivePart, taken_row, run_row}
use Rattle.kept_tables.specs.Worked.{Worked}
use Rattle.kept_tables.proofs.Cutting.{all_both, all_kept, all_weaker}

abbrev IsEvented : Live → Type 0
IsEvented event = is_evented_table event.table.0 ≡ true

abbrev with_event : Live → List Live → ℕ → List Live
with_event event events n = cond (n == 0) (event ∷ own 0 events) (own 0 events) ++ cond (n == 1) (event ∷ own 1 events) (own 1 events) ++ cond (n == 2) (event ∷ own 2 events) (own 2 events)

three : (events : List Live) → AllByRecursion IsEvented events → IsPermutation events (own 0 events ++ own 1 events ++ own 2 events)
three [] h = IsPermutation-refl []
three (event ∷ events) h = by event.table.0 refl h.0 (three events h.1)
  where
    by : (n : ℕ) → event.table.0 ≡ n → is_evented_table n ≡ true → IsPermutation events (own 0 events ++ own 1 events ++ own 2 events) → IsPermutation (event ∷ events) (with_event event events event.table.0)
    by zero is evented rest = subst (λ (n : ℕ). IsPermutation (event ∷ events) (with_event event events n)) (sym is) (IsPermutation-cons event events _ rest)
    by (suc zero) is evented rest =
        subst (λ (n : ℕ). IsPermutation (event ∷ events) (with_event event events n)) (sym is)
        (IsPermutation-trans _ _ _ (IsPermutation-cons event events _ rest) (IsPermutation-append_left (own 2 events) (event ∷ (own 0 events ++ own 1 events)) (own 0 events ++ event ∷ own 1 events) (IsPermutation-sym _ _ (IsPermutation-middle (own 0 events) event (own 1 events)))))
    by (suc (suc zero)) is evented rest =
        subst (λ (n : ℕ). IsPermutation (event ∷ events) (with_event event events n)) (sym is)
        (IsPermutation-trans _ _ _ (IsPermutation-cons event events _ rest) (IsPermutation-sym _ _ (IsPermutation-middle (own 0 events ++ own 1 events) event (own 2 events))))
    by (suc (suc (suc n))) is evented rest = absurd (grind (arith, nat_tests, evented))

evented_part : (table : TableId) (moment : ℕ) → is_evented_table table.0 ≡ true → (ns : List ℕ) (rows : List (List Value)) → AllByRecursion IsEvented (map (event_of table moment) (zip ns rows))
evented_part table moment evented [] [] = tt
evented_part table moment evented [] (row ∷ rows) = tt
evented_part table moment evented (n ∷ ns) [] = tt
evented_part table moment evented (n ∷ ns) (row ∷ rows) = (evented, evented_part table moment evented ns rows)

evented_parts : (parts : List LivePart) → AllByRecursion IsLivePart parts → AllByRecursion IsEvented (flat_map events_of parts)
evented_parts [] h = tt
evented_parts (part ∷ parts) h =
    all_both IsEvented (events_of part) (flat_map events_of parts) (evented_part part.table part.moment h.0.evented part.numbers part.rows) (evented_parts parts h.1)

-- the parts have the live events, in some order
live_same : (floors : List ℕ) (parts : List LivePart) (live : List Live) → AllByRecursion IsEvented live → KeepsLive floors parts live → IsPermutation (events_in floors parts) live
live_same floors parts live evented keeps =
    let events = events_in floors parts in
    let own_events = three events (all_kept IsEvented (is_above (slice_index floors)) (flat_map events_of parts) (evented_parts parts keeps.held)) in
    let same : own 0 events ++ own 1 events ++ own 2 events ≡ own 0 live ++ own 1 live ++ own 2 live = λ i. keeps.processes i ++ keeps.sockets i ++ keeps.files i in
    IsPermutation-trans _ _ _ (subst (IsPermutation events) same own_events) (IsPermutation-sym live _ (three live evented))

pub kept_shows : KeptShows
kept_shows entries kept legal keeps =
    let fit = fits entries legal in
    let evented = all_weaker (LiveFits (summary entries)) IsEvented (λ event is. is.evented) (summary entries).live (recursion_from_All (LiveFits (summary entries)) (summary entries).live fit.live) in
    let live = subst (λ (floors : List ℕ). KeepsLive floors kept.live (summary entries).live) (sym keeps.counts.floors) keeps.rows.live in
    record {
      counts = keeps.counts;
      live = record { parts = kept.live; held = live.held; are = refl; same = live_same kept.counts.floors kept.live (summary entries).live evented live; rising = fit.rising };
      taken = ap (map taken_row) keeps.rows.taken;
      tables = record { parts = kept.set; held = keeps.rows.held; are = refl; same = keeps.rows.tables };
      runs = ap (map run_row) keeps.rows.runs;
    }

pub begins : Begins
begins = record {
  counts = record { position = refl; sessions = refl; moment = refl; last = refl; floors = refl; batches = refl; acked = refl };
  rows = record { live = record { held = tt; bounded = tt; processes = refl; sockets = refl; files = refl }; taken = refl; held = tt; tables = refl; runs = refl };
}

pub worked : Worked
worked = record { added = refl; kept = refl; expired = refl; left = refl; set = refl }
