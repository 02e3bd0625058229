-- What is shown of a state is what a query sees of its list.
use Rattle.std.proofs.Common.{◌≡◌, ℕ, List, [], ◌∷◌, length, map, set, true, Option, Some, None, refl, sym, ap, ◌∙◌}
use Rattle.std.specs.Prelude.{unwrap_or, pos}
use Rattle.osq_value.specs.declared.value.Value.TheVariants.{Int, Text}
use Rattle.osq_value.specs.Catalogue.{table_name}
use Rattle.pack_rules.specs.declared.schedule.QueryKey.{QueryKey}
use Rattle.pack_rules.specs.declared.schedule.Scheduled.{Scheduled}
use Rattle.entry_model.specs.declared.entry.Entry.{Entry}
use Rattle.entry_model.specs.declared.restored.Run.{Run}
use Rattle.entry_model.specs.Values.{batches_of}
use Rattle.entry_model.specs.Views.{is_evented_table, schedule_row, count_row}
use Rattle.entry_model.specs.Next.{run_at, no_run}
use Rattle.entry_model.specs.Summary.{run_from}
use Rattle.entry_model.proofs.Summaries.{run_is}
use Rattle.event_store.specs.Contents.{Shown, cut_above, rows_in}
use Rattle.event_store.specs.Laws.{with_computed}
use Rattle.event_store.proofs.Showing as image
use Rattle.query_cursors.specs.Due.{run_of}
use Rattle.session_state.specs.Kept.{Counts, Kept}
use Rattle.session_state.specs.StateOf.{HasValues}
use Rattle.session_state.specs.Computed.{time_shown, query_shown, live_shown, shown_by}
use Rattle.session_state.specs.Laws.{Shows}

-- the run that a state has of a query is the list's
pub run_same : (K : List Entry) (s : Kept) → HasValues K s → (key : QueryKey) → run_from key (batches_of K key) ≡ run_at s.counts.runs key
run_same K s h key = sym (run_is K key) ∙ ap (λ (c : Counts). run_at c.runs key) h.counts

row_by_run : (scheduled : Scheduled) (o : Option Run) → query_shown scheduled o ≡ Text scheduled.key.name ∷ Text scheduled.key.text ∷ Int (pos scheduled.interval) ∷ Int (pos (unwrap_or o (no_run scheduled.key)).count) ∷ Int (pos (unwrap_or o (no_run scheduled.key)).moment) ∷ []
row_by_run scheduled None = refl
row_by_run scheduled (Some run) = refl

row_same : (K : List Entry) (s : Kept) → HasValues K s → (scheduled : Scheduled) → schedule_row K scheduled ≡ query_shown scheduled (run_of s.counts.runs scheduled.key)
row_same K s h scheduled =
    let run = run_same K s h scheduled.key in
    (λ i. Text scheduled.key.name ∷ Text scheduled.key.text ∷ Int (pos scheduled.interval) ∷ Int (pos (run i).count) ∷ Int (pos (run i).moment) ∷ []) ∙ sym (row_by_run scheduled (run_of s.counts.runs scheduled.key))

live_same : (K : List Entry) (s : Kept) → HasValues K s → (table : ℕ) → is_evented_table table ≡ true → count_row K table ≡ live_shown s.image table
live_same K s h table is = λ i. Text (table_name table) ∷ Int (pos (length (sym (h.image.live table is) i))) ∷ []

shown_same : (K : List Entry) (s : Kept) → HasValues K s → (above moment : ℕ) → with_computed K above moment (cut_above above s.image) ≡ shown_by s above moment
shown_same K s h above moment =
    λ i. set (set (set (cut_above above s.image) 12 (time_shown moment)) 13 (map (λ (scheduled : Scheduled). row_same K s h scheduled i) (h.schedule i).queries)) 14 (live_same K s h 0 refl i ∷ live_same K s h 1 refl i ∷ live_same K s h 2 refl i ∷ [])

pub shows : Shows
shows K s is h above moment table =
    ap (λ (shown : Shown). rows_in shown table) (sym (shown_same K s h above moment)) ∙ image.shows K s.image h.legal is.image h.image above moment table
