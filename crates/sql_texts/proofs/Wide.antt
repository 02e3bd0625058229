-- Rows of a result are as wide as its names.
use Rattle.std.proofs.Common.{◌≡◌, ℕ, ◌≤◌, refl, sym, ap, subst, arith, Bool, true, false, not, List, [], ◌∷◌, length, map, drop, filter, Option, Some, None, suc, pos, negsuc, ℤ}
use Rattle.std.specs.Prelude.{All}
use Rattle.std.proofs.lemmas.List.{length-map, length-append, length-take-le}
use Rattle.std.proofs.lemmas.List.Elements.{All-nil, All-cons, All-head, All-tail, All-map, All-filter, All-take, All-drop, All-weaker}
use Rattle.std.proofs.lemmas.List.Sorted.{All-permutation}
use Rattle.osq_value.specs.declared.value.Value.{Value}
use Rattle.sql_query.specs.Answers.{names_in_result}
use Rattle.sql_query.specs.Resolved.{QueryTree, ResultTree, OrderTree}
use Rattle.sql_meaning.specs.Cut.{cut_by, kept_by, passed_over}
use Rattle.sql_meaning.specs.Expressions.{Environment, value_of}
use Rattle.sql_meaning.specs.Firsts.{firsts_by, same_values}
use Rattle.sql_meaning.specs.Joins.{product}
use Rattle.sql_meaning.specs.Meaning.{View, meaning_of}
use Rattle.sql_meaning.specs.Steps.{behind_from, distinct, environments, filtered, items_in, keys_in, ordered, result_row}
use Rattle.sql_meaning.proofs.OrderLaws.{ordered_by-IsPermutation}
use Rattle.sql_texts.specs.Meaning.{meaning, meaning_if, names_if, names_of}
use Rattle.sql_texts.specs.Texts.{query_in}
use Rattle.sql_texts.specs.Laws.{AreWide, AreWideByItems}

names_count : (items : List ResultTree) → length (names_in_result items) ≡ length items
names_count [] = refl
names_count (item ∷ items) = ap suc (names_count items)

module _ {X : Type 0} (P : X → Type 0) where
  all_firsts : (key : X → List Value) (xs : List X) → All P xs → All P (firsts_by key xs)
  all_firsts key [] all = all
  all_firsts key (x ∷ xs) all =
      All-cons P x (filter (λ y. not (same_values (key x) (key y))) (firsts_by key xs)) (All-head P x xs all) (All-filter (λ y. not (same_values (key x) (key y))) P (firsts_by key xs) (all_firsts key xs (All-tail P x xs all)))

  all_kept : (limit : Option ℤ) (xs : List X) → All P xs → All P (kept_by limit xs)
  all_kept None xs all = all
  all_kept (Some (pos n)) xs all = All-take P n xs all
  all_kept (Some (negsuc n)) xs all = all

  all_cut : (limit skip : Option ℤ) (xs : List X) → All P xs → All P (cut_by limit skip xs)
  all_cut limit skip xs all = all_kept limit (drop (passed_over skip) xs) (All-drop P (passed_over skip) xs all)

module _ (query : QueryTree) where
  -- it has a value for each item, and more behind them
  abbrev HasItems : List Value → Type 0
  HasItems row = length query.items ≤ length row

  abbrev IsWide : List Value → Type 0
  IsWide row = length row ≡ length query.items

  made_has : (env : Environment) → HasItems (result_row query env)
  made_has env =
      let items = map (λ (item : ResultTree). value_of env item.expr) query.items in
      let terms = map (λ (term : OrderTree). value_of env term.expr) query.terms in
      let whole = length-append items terms in
      let front = length-map query.items (λ (item : ResultTree). value_of env item.expr) in
      omega (arith, whole, front)

  every : {X : Type 0} (P : X → Type 0) → ((x : X) → P x) → (xs : List X) → All P xs
  every P holds [] = All-nil P
  every P holds (x ∷ xs) = All-cons P x xs (holds x) (every P holds xs)

  all_made : (envs : List Environment) → All HasItems (map (result_row query) envs)
  all_made envs = All-map HasItems (result_row query) envs (every (λ env. HasItems (result_row query env)) made_has envs)

  all_distinct : (rows : List (List Value)) → All HasItems rows → All HasItems (distinct query rows)
  all_distinct rows all = by query.is_distinct
    where
      by : (is_distinct : Bool) → All HasItems (distinct (record query { is_distinct = is_distinct }) rows)
      by true = all_firsts HasItems (items_in query) rows all
      by false = all

  all_ordered : (rows : List (List Value)) → All HasItems rows → All HasItems (ordered query rows)
  all_ordered rows all =
      let descending = map (λ (term : OrderTree). term.is_descending) query.terms in
      All-permutation HasItems rows (ordered query rows) (ordered_by-IsPermutation (keys_in query) descending rows) all

  all_items : (rows : List (List Value)) → All HasItems rows → All IsWide (map (items_in query) rows)
  all_items rows all =
      All-map IsWide (items_in query) rows (All-weaker HasItems (λ row. IsWide (items_in query row)) (λ row has. length-take-le (length query.items) row has) rows all)

  all_behind : (rows : List (List Value)) → All IsWide (behind_from query rows)
  all_behind rows =
      let made = map (result_row query) (environments query (filtered query rows)) in
      let different = distinct query made in
      all_cut IsWide query.limit query.skip (map (items_in query) (ordered query different)) (all_items (ordered query different) (all_ordered different (all_distinct made (all_made (environments query (filtered query rows))))))

  all_meant : (view : View) → All (λ (row : List Value). length row ≡ length (names_in_result query.items)) (meaning_of query view)
  all_meant view =
      subst (λ (width : ℕ). All (λ (row : List Value). length row ≡ width) (meaning_of query view)) (sym (names_count query.items)) (all_behind (product view query.sources))

pub are_wide_by_items : AreWideByItems
are_wide_by_items query view = all_behind query (product view query.sources)

all_if : (found : Option QueryTree) (view : View) → All (λ (row : List Value). length row ≡ length (names_if found)) (meaning_if found view)
all_if None view = All-nil (λ (row : List Value). length row ≡ length (names_if None))
all_if (Some query) view = all_meant query view

pub are_wide : AreWide
unfolding meaning names_of
are_wide text view = all_if (query_in text) view
