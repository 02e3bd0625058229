-- The order by keys.
use Rattle.std.proofs.Common.{◌≡◌, refl, sym, ap, ◌∙◌, Bool, true, false, List, [], ◌∷◌, drop, IsPermutation, Ordering, Less, Equal, Greater, is_lt}
use Rattle.std.specs.Ordering.{ordering_reverse, on}
use Rattle.std.specs.Cmp.{IsTotalOrder, IsStrictWeakOrder, on_total, then_total}
use Rattle.std.specs.List.Sorted.{IsSortedBy, IsStableBy}
use Rattle.std.proofs.lemmas.List.Sorted.{ranks_by}
use Rattle.osq_value.specs.declared.value.Value.{Value}
use Rattle.osq_value.specs.Order.{order_of}
use Rattle.osq_value.proofs.OrderLaws.{order_of-total}
use Rattle.sql_meaning.specs.Order.{directed, first_key, order_by, ordered_by}
use Rattle.sql_meaning.proofs.Sorting.{sorted_by-IsSortedBy, sorted_by-IsStableBy, sorted_by-IsPermutation, stable_sort-is}

-- turning an order round keeps it total
directed-total : {X : Type 0} (is_descending : Bool) (R : X → X → Ordering) → IsTotalOrder R → IsTotalOrder (λ x y. directed is_descending (R x y))
directed-total false R o = o
directed-total true R o = record {
  antisymm = λ x y. ap ordering_reverse (o.antisymm x y);
  trans = λ x y z p q. sym (o.antisymm z x) ∙ o.trans z y x (o.antisymm z y ∙ q) (o.antisymm y x ∙ p);
  congr = λ x y z p. ap ordering_reverse (o.congr x y z (unturned (R x y) p));
}
  where
    unturned : (r : Ordering) → ordering_reverse r ≡ Equal → r ≡ Equal
    unturned Less h = cc
    unturned Equal h = refl
    unturned Greater h = cc

pub order_by-total : (descending : List Bool) → IsTotalOrder (order_by descending)
order_by-total [] = record { antisymm = λ x y. refl; trans = λ x y z p q. p; congr = λ x y z p. refl }
order_by-total (is_descending ∷ others) =
    then_total (directed-total is_descending (on first_key order_of) (on_total first_key order_of-total)) (on_total (drop 1) (order_by-total others))

module _ {X : Type 0} (key : X → List Value) (descending : List Bool) where
  abbrev pub is_less : X → X → Bool
  is_less x y = is_lt (order_by descending (key x) (key y))

  pub is_less-order : IsStrictWeakOrder is_less
  is_less-order = ranks_by (order_by-total descending) key

  -- what a stable sort by the keys leaves
  pub ordered_by-is : (xs ys : List X) → IsSortedBy is_less ys → IsStableBy is_less xs ys → ys ≡ ordered_by key descending xs
  ordered_by-is = stable_sort-is is_less is_less-order

  -- the answer of the definition has the same members, is in order, and leaves those that tie in their order
  pub ordered_by-IsPermutation : (xs : List X) → IsPermutation xs (ordered_by key descending xs)
  ordered_by-IsPermutation = sorted_by-IsPermutation is_less

  pub ordered_by-IsSortedBy : (xs : List X) → IsSortedBy is_less (ordered_by key descending xs)
  ordered_by-IsSortedBy = sorted_by-IsSortedBy is_less is_less-order

  pub ordered_by-IsStableBy : (xs : List X) → IsStableBy is_less xs (ordered_by key descending xs)
  ordered_by-IsStableBy = sorted_by-IsStableBy is_less is_less-order
