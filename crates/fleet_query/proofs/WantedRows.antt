-- The rows of filled tables by their numbers.
use Rattle.std.proofs.Common.{◌≡◌, ℕ, ◌+◌, ◌-◌, ◌<◌, ◌≤◌, refl, sym, ap, ◌∙◌, Bool, true, false, List, [], Option, map, get_or, arith, ⊎_elim}
use Rattle.std.specs.Prelude.{if◌then◌else◌, nat_le}
use Rattle.std.specs.List.{range_with_len}
use Rattle.std.proofs.lemmas.Bool.{cases_lt}
use Rattle.std.proofs.lemmas.List.{get_or_past, length-map, length-take}
use Rattle.std.proofs.lemmas.List.FromFn.{get_or-map-range_with_len, length-map-range_with_len}
use Rattle.osq_value.specs.declared.value.Value.{Value}
use Rattle.batch_frames.specs.declared.frame.Frame.{Frame}
use Rattle.sql_query.specs.Resolved.{QueryTree}
use Rattle.fleet_query.specs.Names.{last_frames}
use Rattle.fleet_query.specs.Tables.{fleet_rows, fleet_view, query_rows, rows_at, shown_lasts, TABLES}
use Rattle.fleet_query.specs.Wanted.{is_wanted, wanted_rows}

-- behind the last table there is none
pub no_more : (frames : List Frame) (place : ℕ) → 92 ≤ place → rows_at frames place ≡ []
unfolding rows_at
no_more frames place past =
    let long = length-map (shown_lasts frames) (query_rows frames) in
    let few = length-take 90 (last_frames frames) in
    get_or_past (fleet_rows frames) place [] (omega (arith, long, few, past))

at_place : (query : Option QueryTree) (frames : List Frame) (place : ℕ) → is_wanted query (100 + place) ≡ true → get_or (map (wanted_rows query frames) (range_with_len 0 TABLES)) place [] ≡ rows_at frames place
at_place query frames place among = ⊎_elim within past (cases_lt place 92)
  where
    within : place < 92 → get_or (map (wanted_rows query frames) (range_with_len 0 TABLES)) place [] ≡ rows_at frames place
    within low = get_or-map-range_with_len (wanted_rows query frames) 0 92 place place [] low (let e : 0 + place ≡ place = omega arith in e) ∙ ap (λ (b : Bool). if b then rows_at frames place else []) among

    past : 92 ≤ place → get_or (map (wanted_rows query frames) (range_with_len 0 TABLES)) place [] ≡ rows_at frames place
    past high =
        let long = length-map-range_with_len (wanted_rows query frames) 0 92 in
        get_or_past (map (wanted_rows query frames) (range_with_len 0 TABLES)) place [] (omega (arith, long, high)) ∙ sym (no_more frames place high)

-- each table that is wanted has its rows
pub filled_rows : (query : Option QueryTree) (frames : List Frame) (table : ℕ) → is_wanted query table ≡ true
    → (if nat_le 100 table then get_or (map (wanted_rows query frames) (range_with_len 0 TABLES)) (table - 100) [] else []) ≡ fleet_view frames table
unfolding fleet_view
filled_rows query frames table among = ⊎_elim low high (cases_lt table 100)
  where
    low : table < 100 → (if nat_le 100 table then get_or (map (wanted_rows query frames) (range_with_len 0 TABLES)) (table - 100) [] else []) ≡ (if nat_le 100 table then rows_at frames (table - 100) else [])
    low below = (let e : nat_le 100 table ≡ false = grind arith in rw e refl)

    high : 100 ≤ table → (if nat_le 100 table then get_or (map (wanted_rows query frames) (range_with_len 0 TABLES)) (table - 100) [] else []) ≡ (if nat_le 100 table then rows_at frames (table - 100) else [])
    high above =
        let e : 100 + (table - 100) ≡ table = omega (arith, above) in
        ap (λ (rows : List (List Value)). if nat_le 100 table then rows else []) (at_place query frames (table - 100) (rw e among))
