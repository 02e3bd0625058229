-- The places of runs, and what is found by them.
use Rattle.std.proofs.Common.{◌≡◌, ℕ, zero, suc, ◌+◌, ◌<◌, Bool, true, false, cond, List, [], ◌∷◌, ◌++◌, length, map, take, get_or, Option, Some, None, refl, sym, ap, ◌∙◌, arith, append_assoc, length-append}
use Rattle.std.specs.Prelude.{find, slice_get, unwrap_or}
use Rattle.std.specs.List.{position_from}
use Rattle.std.proofs.lemmas.List.{length-take, take_more, map-append}
use Rattle.pack_rules.specs.declared.schedule.QueryKey.{QueryKey}
use Rattle.pack_rules.specs.declared.schedule.Scheduled.{Scheduled}
use Rattle.pack_rules.specs.Keys.{same_key}
use Rattle.entry_model.specs.declared.restored.Run.{Run}
use Rattle.query_cursors.specs.Due.{run_of}
use Rattle.query_cursors.specs.Places.{Indexed, place_of, places_of, run_at, placed_run}
use Rattle.query_cursors.specs.Known.{first_known}

at_length : (front : List Run) (x : Run) (xs : List Run) → slice_get (front ++ x ∷ xs) (length front) ≡ Some x
at_length [] x xs = refl
at_length (y ∷ front) x xs = at_length front x xs

module _ (test : Run → Bool) where
  found_from : (front xs : List Run) → run_at (front ++ xs) (position_from test (length front) xs) ≡ find test xs
  found_from front [] = refl
  found_from front (x ∷ xs) = by_first (test x) (found_from (front ++ x ∷ []) xs)
    where
      longer : length (front ++ x ∷ []) ≡ length front + 1
      longer = length-append front (x ∷ [])

      by_first : (b : Bool) → run_at ((front ++ x ∷ []) ++ xs) (position_from test (length (front ++ x ∷ [])) xs) ≡ find test xs → run_at (front ++ x ∷ xs) (cond b (Some (length front)) (position_from test (length front + 1) xs)) ≡ cond b (Some x) (find test xs)
      by_first true rest = at_length front x xs
      by_first false rest =
          sym (λ i. run_at (append_assoc front (x ∷ []) xs i) (position_from test (longer i) xs)) ∙ rest

-- the run at a query's place is its run
pub placed_is : (runs : List Run) (query : QueryKey) → run_at runs (place_of runs query) ≡ run_of runs query
placed_is runs query = found_from (λ (run : Run). same_key run.key query) [] runs

-- one run more
position_more : (test : Run → Bool) (from : ℕ) (xs : List Run) (x : Run) → position_from test from (xs ++ x ∷ []) ≡ first_known (position_from test from xs) (test x) (from + length xs)
position_more test from [] x = ap (λ (n : ℕ). cond (test x) (Some n) None) (omega arith)
position_more test from (y ∷ xs) x = by_first (test y) (position_more test (from + 1) xs x)
  where
    at : from + 1 + length xs ≡ from + length (y ∷ xs)
    at = omega arith

    by_first : (b : Bool) → position_from test (from + 1) (xs ++ x ∷ []) ≡ first_known (position_from test (from + 1) xs) (test x) (from + 1 + length xs) → cond b (Some from) (position_from test (from + 1) (xs ++ x ∷ [])) ≡ first_known (cond b (Some from) (position_from test (from + 1) xs)) (test x) (from + length (y ∷ xs))
    by_first true rest = refl
    by_first false rest = rest ∙ ap (first_known (position_from test (from + 1) xs) (test x)) at

pub place_more : (runs : List Run) (at : ℕ) (d : Run) (query : QueryKey) → at < length runs → place_of (take (at + 1) runs) query ≡ first_known (place_of (take at runs) query) (same_key (get_or runs at d).key query) at
place_more runs at d query within =
    let front = take at runs in
    let x = get_or runs at d in
    let long : 0 + length front ≡ at = omega (arith, length-take at runs, within) in
    let more : place_of (take (at + 1) runs) query ≡ place_of (front ++ x ∷ []) query = ap (λ (rs : List Run). place_of rs query) (take_more runs at d within) in
    let last : place_of (front ++ x ∷ []) query ≡ first_known (place_of front query) (same_key x.key query) (0 + length front) = position_more (λ (run : Run). same_key run.key query) 0 front x in
    let there : first_known (place_of front query) (same_key x.key query) (0 + length front) ≡ first_known (place_of front query) (same_key x.key query) at = ap (first_known (place_of front query) (same_key x.key query)) long in
    more ∙ last ∙ there

pub found_place : (runs : List Run) (queries : List Scheduled) (at : ℕ) (scheduled : Scheduled) → slice_get queries at ≡ Some scheduled → slice_get (places_of runs queries) at ≡ Some (place_of runs scheduled.key)
found_place runs [] at scheduled h = absurd (cc)
found_place runs (q ∷ queries) zero scheduled h =
    let same : q ≡ scheduled = cc in
    ap (λ (s : Scheduled). Some (place_of runs s.key)) same
found_place runs (q ∷ queries) (suc at) scheduled h = found_place runs queries at scheduled h

-- the run that is found by the place of a query in the schedule is the query's
pub placed_run_is : (c : Indexed) (queries : List Scheduled) (at : ℕ) (scheduled : Scheduled) → c.places ≡ places_of c.runs queries → slice_get queries at ≡ Some scheduled → placed_run c at ≡ run_of c.runs scheduled.key
placed_run_is c queries at scheduled placed h =
    ap (λ (places : List (Option ℕ)). run_at c.runs (unwrap_or (slice_get places at) None)) placed
    ∙ ap (λ (o : Option (Option ℕ)). run_at c.runs (unwrap_or o None)) (found_place c.runs queries at scheduled h)
    ∙ placed_is c.runs scheduled.key

pub places_more : (runs : List Run) (queries : List Scheduled) (at : ℕ) (d : Scheduled) → at < length queries → places_of runs (take at queries) ++ place_of runs (get_or queries at d).key ∷ [] ≡ places_of runs (take (at + 1) queries)
places_more runs queries at d within =
    sym (map-append (λ (scheduled : Scheduled). place_of runs scheduled.key) (take at queries) (get_or queries at d ∷ [])) ∙ sym (ap (places_of runs) (take_more queries at d within))
