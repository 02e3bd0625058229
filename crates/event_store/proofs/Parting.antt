-- Rows in parts.
use Rattle.std.proofs.Common.{◌≡◌, ◌⊎◌, inl, inr, ℕ, ◌<◌, ◌≤◌, ◌/◌, ◌%◌, Bool, true, false, List, [], length, set, get_or, Some, None, refl, sym, ap, ◌∙◌, subst, arith}
use Rattle.std.specs.Prelude.{slice_get, ◌==◌}
use Rattle.std.proofs.lemmas.Bool.Decides.{nat_tests}
use Rattle.std.proofs.lemmas.List.{get_or-set_same, get_or-set_other}
use Rattle.std.proofs.lemmas.List.FromFn.{length-map-range_with_len, get_or-map-range_with_len}
use Rattle.std.proofs.Math.ListN.{get_or-eq_default}
use Rattle.entry_model.proofs.Lists.{is_below}
use Rattle.std.proofs.lemmas.Option.{slice_get-get_or, slice_get_past}
use Rattle.osq_value.specs.declared.value.Value.{Value}
use Rattle.event_store.specs.Parts.{Parted, row_at, rows_of, HasAll}

pub length_rows : (rows : Parted) → length (rows_of rows) ≡ rows.count
length_rows rows = length-map-range_with_len (row_at rows) 0 rows.count

pub got : (rows : Parted) (at : ℕ) → HasAll rows → at < rows.count → slice_get (get_or rows.parts (at / 64) []) (at % 64) ≡ slice_get (rows_of rows) at
got rows at has within =
    let long = length_rows rows in
    slice_get-get_or (get_or rows.parts (at / 64) []) (at % 64) [] (has at within)
    ∙ sym (slice_get-get_or (rows_of rows) at [] (omega (arith, long, within)) ∙ ap (λ (row : List Value). Some row) (get_or-map-range_with_len (row_at rows) 0 rows.count at at [] within (omega arith)))

-- a part with a row for each of its places may stand for the old one
pub has_all_set : (rows : Parted) (part : ℕ) (fresh : List (List Value)) → HasAll rows → part < length rows.parts → ((place : ℕ) → place < rows.count → place / 64 ≡ part → place % 64 < length fresh) → HasAll (record rows { parts = set rows.parts part fresh })
has_all_set rows part fresh has inside whole place within = by_part (place / 64 == part) refl
  where
    by_part : (b : Bool) → (place / 64 == part) ≡ b → place % 64 < length (get_or (set rows.parts part fresh) (place / 64) [])
    by_part true e =
        let same : place / 64 ≡ part = grind (arith, nat_tests, e) in
        let is : get_or (set rows.parts part fresh) (place / 64) [] ≡ fresh = ap (λ (p : ℕ). get_or (set rows.parts part fresh) p []) same ∙ get_or-set_same rows.parts part fresh [] inside in
        subst (λ (rows : List (List Value)). place % 64 < length rows) (sym is) (whole place within same)
    by_part false e =
        subst (λ (rows : List (List Value)). place % 64 < length rows) (sym (get_or-set_other rows.parts part (place / 64) fresh [] (λ same. absurd (grind (arith, nat_tests, e, same))))) (has place within)

pub none_past : (rows : Parted) (at : ℕ) → rows.count ≤ at → slice_get (rows_of rows) at ≡ None
none_past rows at past = slice_get_past (rows_of rows) at (let long = length_rows rows in omega (arith, long, past))

-- the part of each place is there
pub part_there : (rows : Parted) (at : ℕ) → HasAll rows → at < rows.count → at / 64 < length rows.parts
part_there rows at has within = by_past (is_below (length rows.parts) (at / 64))
  where
    by_past : (length rows.parts ≤ at / 64) ⊎ (at / 64 < length rows.parts) → at / 64 < length rows.parts
    by_past (inr h) = h
    by_past (inl h) =
        absurd (let k : at % 64 < length (get_or rows.parts (at / 64) []) = has at within in let none : length (get_or rows.parts (at / 64) []) ≡ 0 = ap (λ (rows : List (List Value)). length rows) (get_or-eq_default rows.parts [] h) in omega (arith, k, none))
