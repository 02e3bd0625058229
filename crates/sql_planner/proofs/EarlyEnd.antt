-- LIMIT is reached by the first rows of a table.
use Rattle.std.proofs.Common.{◌≡◌, ℕ, zero, suc, ◌≤◌, refl, sym, ap, subst, ◌∙◌, Bool, true, false, List, [], ◌∷◌, ◌++◌, length, map, take, drop, Option, arith}
use Rattle.std.specs.Prelude.{if◌then◌else◌, filter}
use Rattle.std.proofs.lemmas.List.{map-append, take-append-drop}
use Rattle.std.proofs.lemmas.List.Elements.{filter-append}
use Rattle.osq_value.specs.declared.value.Value.{Value}
use Rattle.sql_query.specs.Resolved.{OrderTree, QueryTree}
use Rattle.sql_meaning.specs.Cut.{cut_by, passed_over}
use Rattle.sql_meaning.specs.Expressions.{alone, holds}
use Rattle.sql_meaning.specs.Finished.{seen}
use Rattle.sql_meaning.specs.Firsts.{firsts_by}
use Rattle.sql_meaning.specs.Order.{ordered_by, put_in, sorted_by}
use Rattle.sql_meaning.specs.Steps.{asked_by, behind_from, cut, distinct, environments, filtered, items_in, keys_in, kept_groups, ordered, result_row}
use Rattle.sql_meaning.proofs.FirstsLaws.{differs}
use Rattle.sql_planner.specs.Early.{IsEarly}

pub no-items : {X : Type 0} (xs : List X) → length xs ≤ 0 → xs ≡ []
no-items [] h = refl
no-items (x ∷ xs) h = absurd (omega arith)

all-kept : {X : Type 0} (xs : List X) → filter (λ x. true) xs ≡ xs
all-kept [] = refl
all-kept (x ∷ xs) = ap (λ ys. x ∷ ys) (all-kept xs)

-- of rows that WHERE keeps nothing more is asked
pub asked-none : (query : QueryTree) (rows : List (List Value)) → behind_from (asked_by [] query) (filter (λ row. holds (alone row) query.filter) rows) ≡ behind_from query rows
asked-none query rows = ap (λ (kept : List (List Value)). seen query (environments query kept)) (all-kept (filter (λ row. holds (alone row) query.filter) rows))

put-none : {X : Type 0} (x : X) (xs : List X) → put_in (λ a b. false) x xs ≡ x ∷ xs
put-none x [] = refl
put-none x (y ∷ ys) = refl

sorted-none : {X : Type 0} (xs : List X) → sorted_by (λ a b. false) xs ≡ xs
sorted-none [] = refl
sorted-none (x ∷ xs) = ap (put_in (λ a b. false) x) (sorted-none xs) ∙ put-none x xs

module _ {X : Type 0} (key : X → List Value) where
  -- the firsts of some stand before those of more
  firsts-append : (xs ys : List X) → (more : List X) × (firsts_by key (xs ++ ys) ≡ firsts_by key xs ++ more)
  firsts-append [] ys = (firsts_by key ys, refl)
  firsts-append (x ∷ xs) ys =
      let further = firsts-append xs ys in (
        filter (differs key x) further.0,
        ap (λ zs. x ∷ filter (differs key x) zs) further.1 ∙ ap (λ zs. x ∷ zs) (filter-append (differs key x) (firsts_by key xs) further.0),
      )

take-front : {X : Type 0} (n : ℕ) (xs ys : List X) → n ≤ length (take n xs) → take n (xs ++ ys) ≡ take n xs
take-front zero xs ys enough = refl
take-front (suc n) [] ys enough = absurd (omega (arith, enough))
take-front (suc n) (x ∷ xs) ys enough = ap (λ zs. x ∷ zs) (take-front n xs ys (omega (arith, enough)))

-- what is enough of some stays where there are more
cut-front : {X : Type 0} (n s : ℕ) (xs ys : List X) → n ≤ length (take n (drop s xs)) → take n (drop s (xs ++ ys)) ≡ take n (drop s xs)
cut-front n zero xs ys enough = take-front n xs ys enough
cut-front zero (suc s) [] ys enough = refl
cut-front (suc n) (suc s) [] ys enough = absurd (omega (arith, enough))
cut-front n (suc s) (x ∷ xs) ys enough = cut-front n s xs ys enough

module _ (query : QueryTree) where
  -- the rows of the result before the cut
  abbrev made : List (List Value) → List (List Value)
  made rows = map (items_in query) (distinct query (map (result_row query) (map alone (filtered query rows))))

  distinct-append : (b : Bool) (xs ys : List (List Value)) → (more : List (List Value)) × ((if b then firsts_by (items_in query) (xs ++ ys) else xs ++ ys) ≡ (if b then firsts_by (items_in query) xs else xs) ++ more)
  distinct-append true xs ys = firsts-append (items_in query) xs ys
  distinct-append false xs ys = (ys, refl)

  made-append : (xs ys : List (List Value)) → (more : List (List Value)) × (made (xs ++ ys) ≡ made xs ++ more)
  made-append xs ys =
      let results = λ (rows : List (List Value)). map (result_row query) (map alone (filtered query rows)) in
      let apart : results (xs ++ ys) ≡ results xs ++ results ys =
      ap (λ rows. map (result_row query) (map alone rows)) (filter-append (λ row. holds (alone row) query.filter) xs ys)
      ∙ ap (map (result_row query)) (map-append alone (filtered query xs) (filtered query ys))
      ∙ map-append (result_row query) (map alone (filtered query xs)) (map alone (filtered query ys)) in
      let further = distinct-append query.is_distinct (results xs) (results ys) in (
        map (items_in query) further.0,
        ap (λ rows. map (items_in query) (distinct query rows)) apart ∙ ap (map (items_in query)) further.1 ∙ map-append (items_in query) (distinct query (results xs)) further.0,
      )

  unsorted : query.terms ≡ [] → (rows : List (List Value)) → ordered query rows ≡ rows
  unsorted none rows =
      ap (λ (terms : List OrderTree). ordered_by (keys_in query) (map (λ (term : OrderTree). term.is_descending) terms) rows) none ∙ sorted-none rows

  plainly : query.is_grouped ≡ false → query.terms ≡ [] → (rows : List (List Value)) → behind_from query rows ≡ cut query (made rows)
  plainly single none rows =
      ap (λ (b : Bool). cut query (map (items_in query) (ordered query (distinct query (map (result_row query) (if b then kept_groups query (filtered query rows) else map alone (filtered query rows))))))) single
      ∙ ap (λ sorted. cut query (map (items_in query) sorted)) (unsorted none (distinct query (map (result_row query) (map alone (filtered query rows)))))

  -- where the first rows give as many as LIMIT keeps, the others are of no account
  pub early-is : (wanted : ℕ) → IsEarly query wanted → (read : ℕ) (rows found : List (List Value)) → found ≡ behind_from query (take read rows) → wanted ≤ length found → found ≡ behind_from query rows
  early-is wanted early read rows found is enough =
      let first = made (take read rows) in
      let more = made-append (take read rows) (drop read rows) in
      let limit = early.2 in
      let shown : found ≡ take wanted (drop (passed_over query.skip) first) =
      is ∙ plainly early.0 early.1 (take read rows) ∙ ap (λ (l : Option _). cut_by l query.skip first) limit in
      shown
      ∙ sym (cut-front wanted (passed_over query.skip) first more.0 (subst (λ (rows : List (List Value)). wanted ≤ length rows) shown enough))
      ∙ ap (λ rows. take wanted (drop (passed_over query.skip) rows)) (sym more.1 ∙ ap made (take-append-drop read rows))
      ∙ ap (λ (l : Option _). cut_by l query.skip (made rows)) (sym limit)
      ∙ sym (plainly early.0 early.1 rows)
