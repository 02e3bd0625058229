-- The rows of the schedule's table in parts.
use Rattle.std.proofs.Common.{◌≡◌, ◌≢◌, ◌⊎◌, inl, inr, ℕ, zero, suc, ◌+◌, ◌-◌, ◌*◌, ◌<◌, ◌≤◌, ◌/◌, ◌%◌, Bool, true, false, List, [], ◌∷◌, length, map, set, take, drop, get_or, Some, refl, sym, ap, ◌∙◌, subst, arith, min}
use Rattle.std.specs.Prelude.{slice_get, ◌==◌}
use Rattle.std.specs.Fork.{slice_chunk}
use Rattle.std.proofs.Math.Nat.{mod-lt}
use Rattle.std.proofs.lemmas.Grind.{div_ceil_times}
use Rattle.std.proofs.lemmas.Nat.{div-add-mod'}
use Rattle.std.proofs.lemmas.Bool.Decides.{nat_tests}
use Rattle.std.proofs.lemmas.List.{same_lists, get_or-take, get_or-drop, length-take, length-drop, get_or-set_same, get_or-set_other, get_or_default, length-set, drop-take, take_all}
use Rattle.std.proofs.Math.ListN.{get_or-eq_default}
use Rattle.std.proofs.Math.Seq.{take-length}
use Rattle.entry_model.proofs.Lists.{is_below}
use Rattle.std.proofs.lemmas.List.FromFn.{length-map-range_with_len, get_or-map-range_with_len}
use Rattle.osq_value.specs.declared.value.Value.{Value}
use Rattle.pack_rules.specs.declared.schedule.QueryKey.{QueryKey}
use Rattle.pack_rules.specs.declared.schedule.Scheduled.{Scheduled}
use Rattle.pack_rules.specs.ByName.{names_rise}
use Rattle.pack_rules.specs.Keys.{same_key}
use Rattle.entry_model.specs.declared.restored.Run.{Run}
use Rattle.entry_model.specs.Runs.{with_batch}
use Rattle.event_store.specs.Parts.{Parted, row_at, rows_of, HasAll}
use Rattle.query_cursors.specs.Due.{run_of}
use Rattle.query_cursors.proofs.Noting.{later_name, rest_rises, apart, apart_behind}
use Rattle.session_state.specs.Computed.{query_shown}
use Rattle.session_state.specs.Listed.{RowsAndStale, AreFresh, AreParts}
use Rattle.session_state.proofs.Rooms.{other_run}

low_rest : (place : ℕ) → place % 64 < 64
low_rest place = mod-lt place (omega arith)

length_chunk : (xs : List (List Value)) (part : ℕ) → length (slice_chunk xs 64 part) ≡ min 64 (length xs - part * 64)
length_chunk xs part = length-take 64 (drop (part * 64) xs) ∙ ap (min 64) (length-drop (part * 64) xs)

chunk_row : (xs : List (List Value)) (part k : ℕ) (d : List Value) → k < 64 → get_or (slice_chunk xs 64 part) k d ≡ get_or xs (part * 64 + k) d
chunk_row xs part k d low = get_or-take 64 (drop (part * 64) xs) k d low ∙ get_or-drop (part * 64) xs k d

chunk_at : (xs : List (List Value)) (place : ℕ) → get_or (slice_chunk xs 64 (place / 64)) (place % 64) [] ≡ get_or xs place []
chunk_at xs place =
    chunk_row xs (place / 64) (place % 64) [] (low_rest place) ∙ ap (λ (k : ℕ). get_or xs k []) (div-add-mod' place 64)

take_short : (xs : List (List Value)) (k : ℕ) → take (min (length xs) k) xs ≡ take k xs
take_short xs k = by_length (is_below k (length xs))
  where
    by_length : (k ≤ length xs) ⊎ (length xs < k) → take (min (length xs) k) xs ≡ take k xs
    by_length (inl low) = ap (λ (n : ℕ). take n xs) (omega (arith, low))
    by_length (inr past) =
        ap (λ (n : ℕ). take n xs) (let short : min (length xs) k ≡ length xs = omega (arith, past) in short) ∙ take-length xs ∙ sym (take_all k xs (omega (arith, past)))

-- the rows of a part, by where it begins and ends
pub chunk_is : (xs : List (List Value)) (part : ℕ) → drop (part * 64) (take (min (length xs) (part * 64 + 64)) xs) ≡ slice_chunk xs 64 part
chunk_is xs part =
    ap (drop (part * 64)) (take_short xs (part * 64 + 64)) ∙ drop-take (part * 64) 64 xs

-- a part has a row for each of its places
pub in_chunk : (xs : List (List Value)) (part place : ℕ) → place < length xs → place / 64 ≡ part → place % 64 < length (slice_chunk xs 64 part)
in_chunk xs part place within same =
    let long = length_chunk xs part in
    let whole = div-add-mod' place 64 in
    let low = low_rest place in
    omega (arith, long, whole, low, within, same)

-- rows whose parts are all right are the whole
pub whole_is : (shown : List (List Value)) (rows : Parted) (parts : ℕ) → rows.count ≡ length shown → length shown ≤ parts * 64 → ((part : ℕ) → part < parts → get_or rows.parts part [] ≡ slice_chunk shown 64 part) → rows_of rows ≡ shown
whole_is shown rows parts count all right = same_lists (rows_of rows) shown (long ∙ count) each
  where
    long : length (rows_of rows) ≡ rows.count
    long = length-map-range_with_len (row_at rows) 0 rows.count

    each : (k : ℕ) (d : List Value) → k < length (rows_of rows) → get_or (rows_of rows) k d ≡ get_or shown k d
    each k d within =
        let whole = div-add-mod' k 64 in
        let inside : k / 64 < parts = omega (arith, whole, within, long, count, all) in
        get_or-map-range_with_len (row_at rows) 0 rows.count k k d (omega (arith, within, long)) (omega arith)
        ∙ ap (λ (part : List (List Value)). get_or part (k % 64) []) (right (k / 64) inside)
        ∙ chunk_at shown k
        ∙ get_or_default shown k [] d (omega (arith, within, long, count))

pub parts_whole : (shown : List (List Value)) (rows : Parted) → AreParts shown rows → rows_of rows ≡ shown
parts_whole shown rows are = whole_is shown rows (length rows.parts) are.count are.all are.right

pub parts_all : (shown : List (List Value)) (rows : Parted) → AreParts shown rows → HasAll rows
parts_all shown rows are place within =
    let count = are.count in
    let all = are.all in
    let whole = div-add-mod' place 64 in
    let inside : place / 64 < length rows.parts = omega (arith, whole, within, count, all) in
    subst (λ (part : List (List Value)). place % 64 < length part) (sym (are.right (place / 64) inside)) (in_chunk shown (place / 64) place (omega (arith, within, count)) refl)

-- as many parts as the rows take, rounded up
pub parts_built : (shown : List (List Value)) (parts : List (List (List Value))) (n : ℕ) → length shown ≡ n → length parts ≡ n / 64 + min 1 (n % 64) → ((part : ℕ) → part < length parts → get_or parts part [] ≡ slice_chunk shown 64 part) → AreParts shown (record { parts = parts; count = n })
parts_built shown parts n long count right =
    let bounds = div_ceil_times n 64 (omega arith) in
    let all = bounds.0 in
    let few = bounds.1 in
    record { count = sym long; all = omega (arith, all, long, count); few = omega (arith, few, long, count); right = right }

-- a flag that isn't set is one of the list
within_flags : (flags : List Bool) (at : ℕ) → get_or flags at true ≡ false → at < length flags
within_flags flags at h = by_length (is_below (length flags) at)
  where
    by_length : (length flags ≤ at) ⊎ (at < length flags) → at < length flags
    by_length (inr within) = within
    by_length (inl past) = absurd (let k : true ≡ false = sym (get_or-eq_default flags true past) ∙ h in cc)

-- where all parts are right none is stale
pub parts_fresh : (shown : List (List Value)) (rows : Parted) (stale : List Bool) → AreParts shown rows → length stale ≡ length rows.parts → AreFresh shown (record { rows = rows; stale = stale })
parts_fresh shown rows stale are same = record {
  count = are.count;
  parts = sym same;
  all = (let all = are.all in omega (arith, all, same));
  few = (let few = are.few in omega (arith, few, same));
  right = λ part h. are.right part (let within = within_flags stale part h in omega (arith, within, same));
}

-- lists that differ at one place have the same parts but for its own
chunk_kept : (xs ys : List (List Value)) (place : ℕ) → length xs ≡ length ys → ((k : ℕ) (d : List Value) → k ≢ place → get_or xs k d ≡ get_or ys k d) → (part : ℕ) → part ≢ (place / 64) → slice_chunk xs 64 part ≡ slice_chunk ys 64 part
chunk_kept xs ys place long same part differs = same_lists (slice_chunk xs 64 part) (slice_chunk ys 64 part) lengths each
  where
    lengths : length (slice_chunk xs 64 part) ≡ length (slice_chunk ys 64 part)
    lengths = length_chunk xs part ∙ ap (λ (n : ℕ). min 64 (n - part * 64)) long ∙ sym (length_chunk ys part)

    each : (k : ℕ) (d : List Value) → k < length (slice_chunk xs 64 part) → get_or (slice_chunk xs 64 part) k d ≡ get_or (slice_chunk ys 64 part) k d
    each k d within =
        let short = length_chunk xs part in
        let low : k < 64 = omega (arith, within, short) in
        chunk_row xs part k d low
        ∙ same (part * 64 + k) d (λ at. let whole = div-add-mod' place 64 in let rest = low_rest place in differs (omega (arith, at, whole, rest, low)))
        ∙ sym (chunk_row ys part k d low)

set_true : (flags : List Bool) (at : ℕ) → get_or (set flags at true) at true ≡ true
set_true [] at = refl
set_true (b ∷ flags) zero = refl
set_true (b ∷ flags) (suc at) = set_true flags at

-- a part that a batch made stale may be any
pub fresh_after : (shown after : List (List Value)) (listed : RowsAndStale) (place : ℕ) → length shown ≡ length after → ((k : ℕ) (d : List Value) → k ≢ place → get_or shown k d ≡ get_or after k d) → AreFresh shown listed → AreFresh after (record listed { stale = set listed.stale (place / 64) true })
fresh_after shown after listed place long same fresh = record {
  count = fresh.count ∙ long;
  parts = fresh.parts ∙ sym (simp length-set);
  all = (let all = fresh.all in let n : length (set listed.stale (place / 64) true) ≡ length listed.stale = simp length-set in omega (arith, all, n, long));
  few = (let few = fresh.few in let n : length (set listed.stale (place / 64) true) ≡ length listed.stale = simp length-set in omega (arith, few, n, long));
  right = right;
}
  where
    right : (part : ℕ) → get_or (set listed.stale (place / 64) true) part true ≡ false → get_or listed.rows.parts part [] ≡ slice_chunk after 64 part
    right part h = by_part (part == place / 64) refl
      where
        by_part : (b : Bool) → (part == place / 64) ≡ b → get_or listed.rows.parts part [] ≡ slice_chunk after 64 part
        by_part true e =
            let is : part ≡ place / 64 = grind (arith, nat_tests, e) in
            absurd (let k : true ≡ false = sym (set_true listed.stale (place / 64)) ∙ ap (λ (p : ℕ). get_or (set listed.stale (place / 64) true) p true) (sym is) ∙ h in cc)
        by_part false e =
            let differs : part ≢ (place / 64) = λ is. absurd (grind (arith, nat_tests, e, is)) in
            fresh.right part (sym (get_or-set_other listed.stale (place / 64) part true true differs) ∙ h) ∙ chunk_kept shown after place long same part differs

-- a part that was made anew is right, and no other one changes
pub fresh_renewed : (shown : List (List Value)) (listed : RowsAndStale) (part : ℕ) (rows : List (List Value)) → AreFresh shown listed → part < length listed.stale → rows ≡ slice_chunk shown 64 part → AreFresh shown (record { rows = record listed.rows { parts = set listed.rows.parts part rows }; stale = set listed.stale part false })
fresh_renewed shown listed part rows fresh inside is = record {
  count = fresh.count;
  parts = (let a : length (set listed.rows.parts part rows) ≡ length listed.rows.parts = simp length-set in let b : length (set listed.stale part false) ≡ length listed.stale = simp length-set in a ∙ fresh.parts ∙ sym b);
  all = (let all = fresh.all in let n : length (set listed.stale part false) ≡ length listed.stale = simp length-set in omega (arith, all, n));
  few = (let few = fresh.few in let n : length (set listed.stale part false) ≡ length listed.stale = simp length-set in omega (arith, few, n));
  right = right;
}
  where
    right : (other : ℕ) → get_or (set listed.stale part false) other true ≡ false → get_or (set listed.rows.parts part rows) other [] ≡ slice_chunk shown 64 other
    right other h = by_part (other == part) refl
      where
        by_part : (b : Bool) → (other == part) ≡ b → get_or (set listed.rows.parts part rows) other [] ≡ slice_chunk shown 64 other
        by_part true e =
            let same : other ≡ part = grind (arith, nat_tests, e) in
            let count = fresh.parts in
            ap (λ (p : ℕ). get_or (set listed.rows.parts part rows) p []) same
            ∙ get_or-set_same listed.rows.parts part rows [] (omega (arith, inside, count))
            ∙ is
            ∙ ap (slice_chunk shown 64) (sym same)
        by_part false e =
            let differs : other ≢ part = λ same. absurd (grind (arith, nat_tests, e, same)) in
            get_or-set_other listed.rows.parts part other rows [] differs
            ∙ fresh.right other (sym (get_or-set_other listed.stale part other false true differs) ∙ h)

module _ (query : QueryKey) (number hi moment : ℕ) (runs : List Run) where
  abbrev before : Scheduled → List Value
  before scheduled = query_shown scheduled (run_of runs scheduled.key)

  abbrev after : Scheduled → List Value
  after scheduled = query_shown scheduled (run_of (with_batch runs query number hi moment) scheduled.key)

  row_kept : (scheduled : Scheduled) → same_key query scheduled.key ≡ false → before scheduled ≡ after scheduled
  row_kept scheduled differs = sym (ap (query_shown scheduled) (other_run query number hi moment scheduled.key differs runs))

  all_kept : (qs : List Scheduled) → ((place : ℕ) (s : Scheduled) → slice_get qs place ≡ Some s → same_key query s.key ≡ false) → map before qs ≡ map after qs
  all_kept [] differ = refl
  all_kept (q ∷ qs) differ = λ i. row_kept q (differ 0 q refl) i ∷ all_kept qs (λ place s at. differ (suc place) s at) i

  -- only the row of the query itself changes
  pub rows_kept : (qs : List Scheduled) (place : ℕ) (scheduled : Scheduled) → names_rise qs ≡ true → slice_get qs place ≡ Some scheduled → scheduled.key ≡ query → (k : ℕ) (d : List Value) → k ≢ place → get_or (map before qs) k d ≡ get_or (map after qs) k d
  rows_kept [] place scheduled rise at same k d differs = refl
  rows_kept (q ∷ qs) zero scheduled rise at same zero d differs = absurd (differs refl)
  rows_kept (q ∷ qs) zero scheduled rise at same (suc k) d differs =
      let key : q.key ≡ query = (let e : q ≡ scheduled = cc in ap (λ (s : Scheduled). s.key) e ∙ same) in
      let others : (place : ℕ) (s : Scheduled) → slice_get qs place ≡ Some s → same_key query s.key ≡ false = λ place s found. subst (λ (k : QueryKey). same_key k s.key ≡ false) key (apart_behind s.key q.key (later_name q qs place s rise found)) in
      ap (λ (rows : List (List Value)). get_or rows k d) (all_kept qs others)
  rows_kept (q ∷ qs) (suc place) scheduled rise at same zero d differs =
      row_kept q (subst (λ (k : QueryKey). same_key k q.key ≡ false) same (apart q.key scheduled.key (later_name q qs place scheduled rise at)))
  rows_kept (q ∷ qs) (suc place) scheduled rise at same (suc k) d differs =
      rows_kept qs place scheduled (rest_rises q qs rise) at same k d (λ e. differs (ap suc e))
