-- The last frames that have a table.
use Rattle.std.proofs.Common.{◌≡◌, ℕ, ◌+◌, ◌-◌, ◌<◌, ◌≤◌, refl, sym, ap, ◌∙◌, List, [], ◌∷◌, ◌++◌, length, map, take, get_or, Option, Some, unwrap_or, arith}
use Rattle.std.specs.Prelude.{option_map, slice_get, flat_map}
use Rattle.std.specs.Borrow.{Bor}
use Rattle.std.specs.Map.{values_of}
use Rattle.std.proofs.lemmas.List.{get_or-append_right, length-map, length-take, map-append, map_more, take-map}
use Rattle.std.proofs.lemmas.Option.{slice_get-map, unwrap_or-slice_get}
use Rattle.osq_value.specs.declared.value.Value.{Value}
use Rattle.batch_frames.specs.declared.frame.Frame.{Frame}
use Rattle.fleet_query.specs.Names.{last_frames}
use Rattle.sql_query.specs.declared.derived.Derived.{Derived}
use Rattle.fleet_query.specs.Tables.{batch_row, cells_of, derived_by, query_rows, query_table, rows_at, shown_lasts}
use Rattle.fleet_query.proofs.Lasts.{Entry, frame_in}

abbrev pub behind : List (Bor Frame) → List Frame
behind lasts = map (λ (last : Bor Frame). last.now) lasts

frames_behind : (entries : List Entry) → map frame_in entries ≡ behind (values_of entries)
frames_behind [] = refl
frames_behind (entry ∷ entries) = ap (λ (frames : List Frame). entry.1.now ∷ frames) (frames_behind entries)

-- as many of them as have a table
pub shown : (entries : List Entry) (frames : List Frame) (lasts : List (Bor Frame)) → map frame_in entries ≡ last_frames frames → lasts ≡ take 90 (values_of entries) → behind lasts ≡ shown_lasts frames
shown entries frames lasts held are =
    ap behind are ∙ sym (take-map (λ (last : Bor Frame). last.now) 90 (values_of entries)) ∙ ap (take 90) (sym (frames_behind entries) ∙ held)

-- the rows at a place behind the first two
pub at_query : (frames : List Frame) (lasts : List (Bor Frame)) (place : ℕ) → behind lasts ≡ shown_lasts frames → 2 ≤ place
    → rows_at frames place ≡ unwrap_or (option_map (query_rows frames) (option_map (λ (last : Bor Frame). last.now) (slice_get lasts (place - 2)))) []
unfolding rows_at
at_query frames lasts place are past =
    get_or-append_right (map batch_row frames ∷ flat_map cells_of frames ∷ []) (map (query_rows frames) (shown_lasts frames)) 2 place [] refl past
    ∙ ap (λ (those : List Frame). get_or (map (query_rows frames) those) (place - 2) []) (sym are)
    ∙ sym (unwrap_or-slice_get (map (query_rows frames) (behind lasts)) (place - 2) [])
    ∙ ap (λ (o : Option (List (List Value))). unwrap_or o [])
    (slice_get-map (query_rows frames) (behind lasts) (place - 2) ∙ ap (option_map (query_rows frames)) (slice_get-map (λ (last : Bor Frame). last.now) lasts (place - 2)))

-- that of the query whose last frame stands there
pub at_last : (frames : List Frame) (lasts : List (Bor Frame)) (place : ℕ) (last : Bor Frame) → behind lasts ≡ shown_lasts frames → 2 ≤ place → slice_get lasts (place - 2) ≡ Some last
    → query_rows frames last.now ≡ rows_at frames place
at_last frames lasts place last are past found =
    sym (at_query frames lasts place are past ∙ ap (λ (o : Option (Bor Frame)). unwrap_or (option_map (query_rows frames) (option_map (λ (held : Bor Frame). held.now) o)) []) found)

-- there are no more than ninety-two
pub few : (frames : List Frame) (lasts : List (Bor Frame)) (derived : List Derived) → behind lasts ≡ shown_lasts frames → derived ≡ derived_by (behind lasts) → length derived ≤ 100
few frames lasts derived are is =
    let all : length derived ≡ length (derived_by (behind lasts)) = ap length is in
    let queries = length-map (behind lasts) query_table in
    let shown : length (behind lasts) ≡ length (shown_lasts frames) = ap length are in
    let ninety = length-take 90 (last_frames frames) in
    omega (arith, all, queries, shown, ninety)

-- one table more
pub tables_more : (lasts : List (Bor Frame)) (at : ℕ) (last : Bor Frame) → at < length lasts → last ≡ get_or lasts at last
    → map query_table (behind (take (at + 1) lasts)) ≡ map query_table (behind (take at lasts)) ++ query_table last.now ∷ []
tables_more lasts at last within is =
    ap (map query_table) (map_more (λ (held : Bor Frame). held.now) lasts at last within ∙ ap (λ (held : Bor Frame). behind (take at lasts) ++ held.now ∷ []) (sym is))
    ∙ map-append query_table (behind (take at lasts)) (last.now ∷ [])
