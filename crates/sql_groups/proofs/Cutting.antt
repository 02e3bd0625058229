-- A query means the same over fewer rows: those that LIMIT keeps, and the first for each value of DISTINCT.
use Rattle.std.proofs.Common.{◌≡◌, ℕ, ℤ, pos, ◌+◌, refl, sym, ap, ◌∙◌, Bool, true, false, List, [], ◌∷◌, ◌++◌, length, map, take, drop, filter, Option, Some}
use Rattle.std.specs.Prelude.{if◌then◌else◌}
use Rattle.std.specs.List.{take-map}
use Rattle.std.proofs.lemmas.List.{drop-take}
use Rattle.osq_value.specs.declared.value.Value.{Value}
use Rattle.sql_query.specs.Resolved.{ResultTree, OrderTree, QueryTree}
use Rattle.sql_meaning.specs.Cut.{cut_by, passed_over}
use Rattle.sql_meaning.specs.Expressions.{alone, holds, value_at, value_of}
use Rattle.sql_meaning.specs.Firsts.{firsts_by}
use Rattle.sql_meaning.specs.Order.{ordered_by}
use Rattle.sql_meaning.specs.Steps.{behind_from, cut, distinct, items_in, key_values, keys_in, kept_groups, ordered, result_row}
use Rattle.sql_meaning.specs.declared.joined.Joined.{Joined}
use Rattle.sql_meaning.specs.Lent.{values_in}
use Rattle.sql_meaning.proofs.Mapped.{filter_mapped, firsts_mapped, map_twice, ordered_mapped}
use Rattle.sql_meaning.proofs.OrderLaws.{is_less, is_less-order}
use Rattle.sql_groups.specs.Different.{different, different_by}
use Rattle.sql_groups.specs.Kept.{is_kept}
use Rattle.sql_groups.specs.Leading.{leading}
use Rattle.sql_groups.proofs.Climbing.{taken-sorted}
use Rattle.sql_groups.proofs.Passing.{Every, every-firsts, every-kept, every-sorted, every-take, firsts-again, kept-every}
use Rattle.sql_groups.proofs.Taken.{take-take}

-- what a row is sorted by
abbrev pub terms_of : QueryTree → List Value → List Value
terms_of query row = map (λ (term : OrderTree). value_of (alone row) term.expr) query.terms

abbrev pub items_of : QueryTree → List Value → List Value
items_of query row = map (λ (item : ResultTree). value_of (alone row) item.expr) query.items

abbrev pub descending_of : QueryTree → List Bool
descending_of query = map (λ (term : OrderTree). term.is_descending) query.terms

-- WHERE holds of a row
abbrev pub passes : QueryTree → List Value → Bool
passes query row = holds (alone row) query.filter

drop-items : {X Y : Type 0} (f : X → Y) (xs : List X) (ys : List Y) → drop (length xs) (map f xs ++ ys) ≡ ys
drop-items f [] ys = refl
drop-items f (x ∷ xs) ys = drop-items f xs ys

take-items : {X Y : Type 0} (f : X → Y) (xs : List X) (ys : List Y) → take (length xs) (map f xs ++ ys) ≡ map f xs
take-items f [] ys = refl
take-items f (x ∷ xs) ys = ap (λ zs. f x ∷ zs) (take-items f xs ys)

module _ (query : QueryTree) where
  abbrev row_of : List Value → List Value
  row_of row = result_row query (alone row)

  sorted-rows : (rows : List (List Value)) → ordered query (map row_of rows) ≡ map row_of (ordered_by (terms_of query) (descending_of query) rows)
  sorted-rows rows =
      ordered_mapped row_of (keys_in query) (descending_of query) rows
      ∙ (λ i. map row_of (ordered_by (λ row. drop-items (λ (item : ResultTree). value_of (alone row) item.expr) query.items (terms_of query row) i) (descending_of query) rows))

  first-rows : (rows : List (List Value)) → firsts_by (items_in query) (map row_of rows) ≡ map row_of (firsts_by (items_of query) rows)
  first-rows rows =
      firsts_mapped row_of (items_in query) rows
      ∙ (λ i. map row_of (firsts_by (λ row. take-items (λ (item : ResultTree). value_of (alone row) item.expr) query.items (terms_of query row) i) rows))

  -- the steps behind WHERE of a query without groups
  abbrev finish : Bool → List (List Value) → List (List Value)
  finish is_distinct kept =
      cut query (map (items_in query) (ordered query (if is_distinct then firsts_by (items_in query) (map (result_row query) (map alone kept)) else map (result_row query) (map alone kept))))

  behind : query.is_grouped ≡ false → (is_distinct : Bool) → query.is_distinct ≡ is_distinct → (rows : List (List Value)) → behind_from query rows ≡ finish is_distinct (filter (passes query) rows)
  behind ungrouped is_distinct is rows =
      let kept = filter (passes query) rows in
      ap (λ (b : Bool). cut query (map (items_in query) (ordered query (distinct query (map (result_row query) (if b then kept_groups query kept else map alone kept)))))) ungrouped
      ∙ ap (λ (b : Bool). finish b kept) is

  cut-taken : {n kept : ℕ} → query.limit ≡ Some (pos kept) → n ≡ passed_over query.skip + kept → (rows : List (List Value)) → cut query (take n rows) ≡ cut query rows
  cut-taken {n} {kept} limited is rows =
      let skipped = passed_over query.skip in
      ap (λ (limit : Option ℤ). cut_by limit query.skip (take n rows)) limited
      ∙ ap (λ m. take kept (drop skipped (take m rows))) is
      ∙ ap (take kept) (drop-take skipped kept rows)
      ∙ take-take kept (drop skipped rows)
      ∙ ap (λ (limit : Option ℤ). cut_by limit query.skip rows) (sym limited)

  -- the steps behind WHERE of a query with neither groups nor DISTINCT
  finish-all : (kept : List (List Value)) → finish false kept ≡ cut query (map (items_in query) (map row_of (ordered_by (terms_of query) (descending_of query) kept)))
  finish-all kept = ap (λ made. cut query (map (items_in query) (ordered query made))) (map_twice (result_row query) alone kept) ∙ ap (λ made. cut query (map (items_in query) made)) (sorted-rows kept)

  -- the first rows in the order of the terms are enough where LIMIT keeps no more
  pub leading-means : {n kept : ℕ} → query.is_grouped ≡ false → query.is_distinct ≡ false → query.limit ≡ Some (pos kept) → n ≡ passed_over query.skip + kept → (rows : List (List Value))
      → behind_from query (take n (ordered_by (terms_of query) (descending_of query) (filter (passes query) rows))) ≡ behind_from query rows
  leading-means {n} {kept} ungrouped all limited is rows =
      let less = is_less (terms_of query) (descending_of query) in
      let some = filter (passes query) rows in
      let sorted = ordered_by (terms_of query) (descending_of query) some in
      let every : Every (passes query) (take n sorted) = every-take (passes query) n sorted (every-sorted (passes query) less some (kept-every (passes query) rows)) in
      behind ungrouped false all (take n sorted)
      ∙ ap (finish false) (every-kept (passes query) (take n sorted) every)
      ∙ finish-all (take n sorted)
      ∙ ap (λ made. cut query (map (items_in query) (map row_of made))) (taken-sorted less (is_less-order (terms_of query) (descending_of query)) n some)
      ∙ ap (λ made. cut query (map (items_in query) made)) (sym (take-map row_of n sorted))
      ∙ ap (cut query) (sym (take-map (items_in query) n (map row_of sorted)))
      ∙ cut-taken limited is (map (items_in query) (map row_of sorted))
      ∙ sym (behind ungrouped false all rows ∙ finish-all some)

  -- the columns of the result of the rows in the order of the terms
  pub sorted-lent : query.is_grouped ≡ false → query.is_distinct ≡ false → (rows : List Joined)
      → cut query (map (λ row. items_of query (values_in row)) (ordered_by (λ row. terms_of query (values_in row)) (descending_of query) (filter (is_kept query.filter) rows))) ≡ behind_from query (map values_in rows)
  sorted-lent ungrouped all rows =
      let some = filter (is_kept query.filter) rows in
      let kept = filter (passes query) (map values_in rows) in
      let sorted = ordered_by (terms_of query) (descending_of query) kept in
      sym (behind ungrouped false all (map values_in rows)
      ∙ finish-all kept
      ∙ ap (cut query)
      (map_twice (items_in query) row_of sorted
      ∙ (λ i. map (λ row. take-items (λ (item : ResultTree). value_of (alone row) item.expr) query.items (terms_of query row) i) sorted)
      ∙ ap (λ rows. map (items_of query) (ordered_by (terms_of query) (descending_of query) rows)) (filter_mapped values_in (passes query) rows)
      ∙ ap (map (items_of query)) (ordered_mapped values_in (terms_of query) (descending_of query) some)
      ∙ map_twice (items_of query) values_in (ordered_by (λ row. terms_of query (values_in row)) (descending_of query) some)))

  finish-different : (kept : List (List Value)) → finish true kept ≡ cut query (map (items_in query) (ordered query (map row_of (firsts_by (items_of query) kept))))
  finish-different kept =
      ap (λ made. cut query (map (items_in query) (ordered query (firsts_by (items_in query) made)))) (map_twice (result_row query) alone kept)
      ∙ ap (λ made. cut query (map (items_in query) (ordered query made))) (first-rows kept)

  -- of a query with DISTINCT the first row for each value of the items is enough
  pub different-means : query.is_grouped ≡ false → query.is_distinct ≡ true → (rows : List (List Value))
      → behind_from query (firsts_by (items_of query) (filter (passes query) rows)) ≡ behind_from query rows
  different-means ungrouped is rows =
      let some = filter (passes query) rows in
      let firsts = firsts_by (items_of query) some in
      behind ungrouped true is firsts
      ∙ ap (finish true) (every-kept (passes query) firsts (every-firsts (passes query) (items_of query) some (kept-every (passes query) rows)))
      ∙ finish-different firsts
      ∙ ap (λ made. cut query (map (items_in query) (ordered query (map row_of made)))) (firsts-again (items_of query) some)
      ∙ sym (behind ungrouped true is rows ∙ finish-different some)

  -- the same of rows that are lent
  pub leading-lent : {count kept : ℕ} → query.is_grouped ≡ false → query.is_distinct ≡ false → query.limit ≡ Some (pos kept) → count ≡ passed_over query.skip + kept
      → (rows : List Joined) → behind_from query (map values_in (leading query.terms query.filter count rows)) ≡ behind_from query (map values_in rows)
  leading-lent {count} ungrouped all limited is rows =
      let some = filter (is_kept query.filter) rows in
      ap (behind_from query)
      (sym (take-map values_in count (ordered_by (λ row. terms_of query (values_in row)) (descending_of query) some))
      ∙ ap (take count)
      (sym (ordered_mapped values_in (terms_of query) (descending_of query) some)
      ∙ ap (ordered_by (terms_of query) (descending_of query)) (sym (filter_mapped values_in (passes query) rows))))
      ∙ leading-means ungrouped all limited is (map values_in rows)

  pub different-lent : (place : ℕ) → query.is_grouped ≡ false → query.is_distinct ≡ true → ((row : List Value) → items_of query row ≡ value_at row place ∷ []) → (rows : List Joined)
      → behind_from query (map values_in (different place query.filter rows)) ≡ behind_from query (map values_in rows)
  different-lent place ungrouped is only rows =
      ap (behind_from query)
      (sym (firsts_mapped values_in (λ row. value_at row place ∷ []) (filter (is_kept query.filter) rows))
      ∙ ap (firsts_by (λ row. value_at row place ∷ [])) (sym (filter_mapped values_in (passes query) rows))
      ∙ (λ i. firsts_by (λ row. sym (only row) i) (filter (passes query) (map values_in rows))))
      ∙ different-means ungrouped is (map values_in rows)

  pub different-by-lent : query.is_grouped ≡ false → query.is_distinct ≡ true → (rows : List Joined)
      → behind_from query (map values_in (different_by (map (λ (item : ResultTree). item.expr) query.items) query.filter rows)) ≡ behind_from query (map values_in rows)
  different-by-lent ungrouped is rows =
      let exprs = map (λ (item : ResultTree). item.expr) query.items in
      ap (behind_from query)
      (sym (firsts_mapped values_in (key_values exprs) (filter (is_kept query.filter) rows))
      ∙ ap (firsts_by (key_values exprs)) (sym (filter_mapped values_in (passes query) rows))
      ∙ (λ i. firsts_by (λ row. map_twice (value_of (alone row)) (λ (item : ResultTree). item.expr) query.items i) (filter (passes query) (map values_in rows))))
      ∙ different-means ungrouped is (map values_in rows)
