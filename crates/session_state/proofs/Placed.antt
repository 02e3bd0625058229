-- The row of a query by the place of its run.
use Rattle.std.proofs.Common.{◌≡◌, ℕ, ◌+◌, ◌<◌, List, [], ◌∷◌, ◌++◌, length, take, get_or, Option, Some, None, refl, sym, ap, ◌∙◌}
use Rattle.std.specs.Prelude.{slice_get, option_map, unwrap_or}
use Rattle.std.proofs.lemmas.List.{take_more, map-append}
use Rattle.std.proofs.lemmas.Option.{slice_get-get_or}
use Rattle.pack_rules.specs.declared.schedule.Scheduled.{Scheduled}
use Rattle.entry_model.specs.declared.restored.Run.{Run}
use Rattle.query_cursors.specs.Due.{run_of}
use Rattle.query_cursors.specs.Places.{Indexed, places_of, placed_run, run_at}
use Rattle.query_cursors.proofs.Placing.{placed_run_is}
use Rattle.pack_rules.specs.declared.schedule.Mode.{Mode}
use Rattle.pack_rules.specs.declared.schedule.Mode.TheVariants.{Evented, Snapshot}
use Rattle.pack_rules.specs.declared.schedule.QueryKey.{QueryKey}
use Rattle.query_cursors.specs.Due as cursors
use Rattle.event_store.specs.Contents.{Shown}
use Rattle.session_state.specs.Kept.{Kept}
use Rattle.session_state.specs.Cut.{CutValue}
use Rattle.session_state.specs.Cutting.{lower_from, lower_at, bound_at, cut_of}
use Rattle.session_state.specs.Computed.{query_shown, schedule_shown, shown_by}

-- the run at the place of a query within the schedule is the query's
pub run_is : (c : Indexed) (queries : List Scheduled) (at : ℕ) (d : Scheduled) → c.places ≡ places_of c.runs queries → at < length queries → placed_run c at ≡ run_of c.runs (get_or queries at d).key
run_is c queries at d placed within =
    placed_run_is c queries at (get_or queries at d) placed (slice_get-get_or queries at d within)

pub run_among_is : (c : Indexed) (places : List (Option ℕ)) (queries : List Scheduled) (at : ℕ) (d : Scheduled) → places ≡ places_of c.runs queries → at < length queries → run_at c.runs (unwrap_or (slice_get places at) None) ≡ run_of c.runs (get_or queries at d).key
run_among_is c places queries at d placed within = run_is (record c { places = places }) queries at d placed within

pub schedule_more : (runs : List Run) (queries : List Scheduled) (at : ℕ) (d : Scheduled) → at < length queries → schedule_shown runs (take at queries) ++ query_shown (get_or queries at d) (run_of runs (get_or queries at d).key) ∷ [] ≡ schedule_shown runs (take (at + 1) queries)
schedule_more runs queries at d within =
    sym (map-append (λ (scheduled : Scheduled). query_shown scheduled (run_of runs scheduled.key)) (take at queries) (get_or queries at d ∷ [])) ∙ sym (ap (schedule_shown runs) (take_more queries at d within))

lower_is : (s : Kept) (query : QueryKey) (mode : Mode) → lower_from mode (cursors.cursor_of s.counts.runs query) ≡ lower_at s query mode
lower_is s query Evented = refl
lower_is s query Snapshot = refl

-- above which number the events of a query are, by the end of its run
pub bound_is : (s : Kept) (place : ℕ) (scheduled : Scheduled) (lo : ℕ) → slice_get s.schedule.queries place ≡ Some scheduled → lo ≡ lower_from scheduled.key.mode (cursors.cursor_of s.counts.runs scheduled.key) → bound_at s place ≡ Some lo
bound_is s place scheduled lo stands is =
    ap (option_map (λ (scheduled : Scheduled). lower_at s scheduled.key scheduled.key.mode)) stands ∙ ap (λ (lo : ℕ). Some lo) (sym (is ∙ lower_is s scheduled.key scheduled.key.mode))

-- what the parts of a cut are
pub record IsCutAt (s : Kept) (place : ℕ) (scheduled : Scheduled) (key : QueryKey) (lo hi last : ℕ) (view : Shown) : Type 0 where
  pub stands : slice_get s.schedule.queries place ≡ Some scheduled
  pub key_is : key ≡ scheduled.key
  pub bound : bound_at s place ≡ Some lo
  pub hi_is : hi ≡ s.image.last
  pub last_is : last ≡ cursors.number_of s.counts.runs scheduled.key
  pub view_is : view ≡ shown_by s lo s.counts.moment

pub cut_is : (s : Kept) (place : ℕ) (scheduled : Scheduled) (key : QueryKey) (lo hi last : ℕ) (view : Shown) → IsCutAt s place scheduled key lo hi last view → Some (record { place = place; key = key; lo = lo; hi = hi; position = s.counts.position; moment = s.counts.moment; last = last; view = view }) ≡ option_map (cut_of s place) (slice_get s.schedule.queries place)
cut_is s place scheduled key lo hi last view is =
    let some : Some (lower_at s scheduled.key scheduled.key.mode) ≡ Some lo = sym (ap (option_map (λ (scheduled : Scheduled). lower_at s scheduled.key scheduled.key.mode)) is.stands) ∙ is.bound in
    let low : lo ≡ lower_at s scheduled.key scheduled.key.mode = cc in
    let shown : view ≡ shown_by s (lower_at s scheduled.key scheduled.key.mode) s.counts.moment = is.view_is ∙ ap (λ (above : ℕ). shown_by s above s.counts.moment) low in
    let cut : (record { place = place; key = key; lo = lo; hi = hi; position = s.counts.position; moment = s.counts.moment; last = last; view = view }) ≡ cut_of s place scheduled = λ i. record { place = place; key = is.key_is i; lo = low i; hi = is.hi_is i; position = s.counts.position; moment = s.counts.moment; last = is.last_is i; view = shown i } in
    ap (λ (c : CutValue). Some c) cut ∙ sym (ap (option_map (cut_of s place)) is.stands)
