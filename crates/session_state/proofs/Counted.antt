-- The rows of the computed tables have the width of their table, and their numbers fit.
use Rattle.std.proofs.Common.{◌≡◌, ℕ, ◌+◌, ◌<◌, ◌≤◌, ◌^◌, List, [], ◌∷◌, length, Option, Some, None, refl, arith}
use Rattle.std.specs.Prelude.{All, IfSome}
use Rattle.std.proofs.lemmas.List.Elements.{All-nil, All-cons, All-head, All-tail, All-contains}
use Rattle.osq_value.specs.declared.value.Value.{Value}
use Rattle.osq_value.specs.Catalogue.{tables, columns_of, width_of}
use Rattle.pack_rules.specs.Keys.{same_key}
use Rattle.pack_rules.specs.declared.schedule.QueryKey.{QueryKey}
use Rattle.pack_rules.specs.declared.schedule.Scheduled.{Scheduled}
use Rattle.entry_model.specs.declared.restored.Live.{Live}
use Rattle.entry_model.specs.declared.restored.Run.{Run}
use Rattle.entry_model.specs.Fits.{IsRisingFrom}
use Rattle.event_store.specs.Contents.{Contents, AreWide, IsImage, live_at}
use Rattle.query_cursors.specs.Due.{run_of}
use Rattle.session_state.specs.Kept.{IsRun}
use Rattle.session_state.specs.Computed.{time_shown, query_shown, schedule_shown, live_shown, events_shown}
use Rattle.session_state.proofs.Dues.{found_in}

-- numbers that rise up to the last one are no more than that
rising_few : (first last : ℕ) (events : List Live) → first ≤ last → IsRisingFrom first events → All (λ (event : Live). event.number ≤ last) events → first + length events ≤ last
rising_few first last [] start rising known = omega (arith, start)
rising_few first last (event ∷ events) start rising known =
    let past = rising.0 in
    let rest = rising_few event.number last events (All-head (λ (event : Live). event.number ≤ last) event events known) rising.1 (All-tail (λ (event : Live). event.number ≤ last) event events known) in
    omega (arith, past, rest)

pub few_live : (image : Contents) (table : ℕ) → IsImage image → length (live_at image table) ≤ 2 ^ 62
few_live image table is =
    let live = is.live table in
    let few = rising_few 0 image.last (live_at image table) (omega arith) live.rising live.known in
    let last = is.last in
    omega (arith, few, last)

-- the run of a query is one that is known
pub known_run : (bound : ℕ) (runs : List Run) (key : QueryKey) → All (IsRun bound) runs → IfSome (run_of runs key) (IsRun bound)
known_run bound runs key known = by_run (run_of runs key) refl
  where
    by_run : (o : Option Run) → run_of runs key ≡ o → IfSome o (IsRun bound)
    by_run None e = tt
    by_run (Some run) e =
        All-contains (IsRun bound) runs run known (found_in (λ (run : Run). same_key run.key key) runs run e)

pub low_count : (bound : ℕ) (o : Option Run) → bound ≤ 2 ^ 62 → IfSome o (IsRun bound) → IfSome o (λ (run : Run). run.count < 2 ^ 63)
low_count bound None low known = tt
low_count bound (Some run) low known = let most = known.most in omega (arith, most, low)

pub low_moment : (bound : ℕ) (o : Option Run) → IfSome o (IsRun bound) → IfSome o (λ (run : Run). run.moment < 2 ^ 63)
low_moment bound None known = tt
low_moment bound (Some run) known = let past = known.past in omega (arith, past)

abbrev IsWide : ℕ → List Value → Type 0
IsWide table row = length row ≡ width_of table

pub time_wide : (moment : ℕ) → AreWide (width_of 12) (time_shown moment)
unfolding tables columns_of width_of
time_wide moment = All-cons (IsWide 12) _ [] refl (All-nil (IsWide 12))

query_wide : (scheduled : Scheduled) (o : Option Run) → length (query_shown scheduled o) ≡ width_of 13
unfolding tables columns_of width_of
query_wide scheduled None = refl
query_wide scheduled (Some run) = refl

pub schedule_wide : (runs : List Run) (queries : List Scheduled) → AreWide (width_of 13) (schedule_shown runs queries)
schedule_wide runs [] = All-nil (IsWide 13)
schedule_wide runs (scheduled ∷ queries) =
    All-cons (IsWide 13) (query_shown scheduled (run_of runs scheduled.key)) (schedule_shown runs queries) (query_wide scheduled (run_of runs scheduled.key)) (schedule_wide runs queries)

live_wide : (image : Contents) (table : ℕ) → length (live_shown image table) ≡ width_of 14
unfolding tables columns_of width_of
live_wide image table = refl

pub events_wide : (image : Contents) → AreWide (width_of 14) (events_shown image)
events_wide image =
    All-cons (IsWide 14) (live_shown image 0) (live_shown image 1 ∷ live_shown image 2 ∷ []) (live_wide image 0) (All-cons (IsWide 14) (live_shown image 1) (live_shown image 2 ∷ []) (live_wide image 1) (All-cons (IsWide 14) (live_shown image 2) [] (live_wide image 2) (All-nil (IsWide 14))))
