-- The first rows in an order, while further ones come behind.
use Rattle.std.proofs.Common.{◌≡◌, ℕ, refl, sym, ap, subst, ◌∙◌, Bool, true, false, cond, List, [], ◌∷◌, ◌++◌, filter, map, take}
use Rattle.std.specs.List.{take-map}
use Rattle.std.specs.Cmp.{IsStrictWeakOrder}
use Rattle.std.proofs.lemmas.List.{map-append}
use Rattle.std.proofs.lemmas.List.Elements.{filter-append}
use Rattle.osq_value.specs.declared.value.Value.{Value}
use Rattle.sql_query.specs.Exprs.{ExprTree}
use Rattle.sql_query.specs.Resolved.{OrderTree}
use Rattle.sql_meaning.specs.declared.groups.Keyed.{Keyed}
use Rattle.sql_meaning.specs.declared.joined.Joined.{Joined}
use Rattle.sql_meaning.specs.Keyed.{member_of}
use Rattle.sql_meaning.specs.Lent.{values_in}
use Rattle.sql_meaning.specs.Order.{ordered_by, sorted_by}
use Rattle.sql_meaning.specs.Worths.{worths}
use Rattle.sql_meaning.proofs.Mapped.{map_twice, ordered_mapped}
use Rattle.sql_meaning.proofs.OrderLaws.{is_less-order}
use Rattle.sql_groups.specs.declared.leading.Leaders.{Leaders}
use Rattle.sql_groups.specs.Kept.{is_kept}
use Rattle.sql_groups.specs.Leading.{Climbs, IsBehind, Leads, all_of, directions, firsts_of, kept_pairs, leading, members_of, sort_keys, sorted_row, stands_before}
use Rattle.sql_groups.proofs.Climbing.{climbs-take, sorted-climbs}
use Rattle.sql_groups.proofs.Placing.{gathered-alike, grown-alike}

module _ (ways : List Bool) (count : ℕ) where
  abbrev pub weak : IsStrictWeakOrder (stands_before ways)
  weak = is_less-order (λ (pair : List Value × Joined). pair.0) ways

  -- one more row comes to those that are kept
  pub pushed-leads : (pairs : List (List Value × Joined)) (old new : Leaders) (row : List Value × Joined) → new.best ≡ old.best → all_of new ≡ all_of old ++ row ∷ []
      → Leads ways count pairs old → Leads ways count (pairs ++ row ∷ []) new
  pushed-leads pairs old new row best all was = (
    subst (λ kept. Climbs (stands_before ways) (members_of kept.items)) (sym best) was.0,
    ap (firsts_of ways count) all ∙ grown-alike (stands_before ways) weak count row (all_of old) pairs was.1,
  )

  -- one that is none of the first is left
  pub left-leads : (pairs : List (List Value × Joined)) (leaders : Leaders) (row : List Value × Joined) → IsBehind ways count (members_of leaders.best.items) row
      → Leads ways count pairs leaders → Leads ways count (pairs ++ row ∷ []) leaders
  left-leads pairs leaders row behind was = (
    was.0,
    sym (behind (members_of leaders.more.items) was.0) ∙ grown-alike (stands_before ways) weak count row (all_of leaders) pairs was.1,
  )

  -- the first are gathered
  pub gathered-leads : (pairs : List (List Value × Joined)) (old new : Leaders) → members_of new.best.items ≡ firsts_of ways count (all_of old) → new.more.items ≡ []
      → Leads ways count pairs old → Leads ways count pairs new
  gathered-leads pairs old new best more was = (
    subst (Climbs (stands_before ways)) (sym best) (climbs-take (stands_before ways) count (sorted_by (stands_before ways) (all_of old)) (sorted-climbs (stands_before ways) weak (all_of old))),
    (λ i. firsts_of ways count (best i ++ members_of (more i))) ∙ gathered-alike (stands_before ways) weak count (all_of old) ∙ was.1,
  )

  -- sorting those that are kept
  pub sorted-members : (members : List Keyed) → members_of (take count (ordered_by (λ (member : Keyed). worths member.key) ways members)) ≡ firsts_of ways count (members_of members)
  sorted-members members =
      sym (take-map member_of count (ordered_by (λ (member : Keyed). worths member.key) ways members))
      ∙ ap (take count) (sym (ordered_mapped member_of (λ (pair : List Value × Joined). pair.0) ways members))

module _ (terms : List OrderTree) (condition : List ExprTree) where
  -- one more row for which the condition holds, or doesn't
  pub kept-more : (rows : List Joined) (row : Joined) (keeps : Bool) → is_kept condition row ≡ keeps
      → kept_pairs terms condition (rows ++ row ∷ []) ≡ kept_pairs terms condition rows ++ cond keeps (sorted_row terms row ∷ []) []
  kept-more rows row keeps is =
      ap (map (sorted_row terms)) (filter-append (is_kept condition) rows (row ∷ []) ∙ ap (λ (b : Bool). filter (is_kept condition) rows ++ cond b (row ∷ []) []) is)
      ∙ map-append (sorted_row terms) (filter (is_kept condition) rows) (cond keeps (row ∷ []) [])
      ∙ by keeps
    where
      by : (b : Bool) → kept_pairs terms condition rows ++ map (sorted_row terms) (cond b (row ∷ []) []) ≡ kept_pairs terms condition rows ++ cond b (sorted_row terms row ∷ []) []
      by true = refl
      by false = refl

  itself : {X : Type 0} (xs : List X) → map (λ x. x) xs ≡ xs
  itself [] = refl
  itself (x ∷ xs) = ap (λ ys. x ∷ ys) (itself xs)

  -- the rows of the first
  pub leading-rows : (count : ℕ) (members : List Keyed) (rows : List Joined) → members_of members ≡ firsts_of (directions terms) count (kept_pairs terms condition rows)
      → map (λ (member : Keyed). member.row) members ≡ leading terms condition count rows
  leading-rows count members rows is =
      let some = filter (is_kept condition) rows in
      let sorted = ordered_by (λ row. sort_keys terms (values_in row)) (directions terms) some in
      sym (map_twice (λ (pair : List Value × Joined). pair.1) member_of members)
      ∙ ap (map (λ (pair : List Value × Joined). pair.1)) is
      ∙ sym (take-map (λ (pair : List Value × Joined). pair.1) count (sorted_by (stands_before (directions terms)) (kept_pairs terms condition rows)))
      ∙ ap (take count)
      (ap (map (λ (pair : List Value × Joined). pair.1)) (ordered_mapped (sorted_row terms) (λ (pair : List Value × Joined). pair.0) (directions terms) some)
      ∙ map_twice (λ (pair : List Value × Joined). pair.1) (sorted_row terms) sorted ∙ itself sorted)
