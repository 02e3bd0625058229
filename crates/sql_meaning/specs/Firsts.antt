-- The first of those with equal keys.
use Rattle.std.specs.Prelude.{List, [], ◌∷◌, filter, Bool, true, false, ◌&&◌, not}
use Rattle.std.specs.Ordering.{is_eq}
use Rattle.osq_value.specs.declared.value.Value.{Value}
use Rattle.osq_value.specs.Order.{order_of}

-- lists of values that are equal in each place: Null equals Null, and no number equals a text
abbrev pub same_values : List Value → List Value → Bool
same_values [] [] = true
same_values [] (value ∷ values) = false
same_values (value ∷ values) [] = false
same_values (left ∷ lefts) (right ∷ rights) = is_eq (order_of left right) && same_values lefts rights

-- the first stays, and of the others those with other keys
abbrev pub firsts_by : {X : Type 0} → (X → List Value) → List X → List X
firsts_by key [] = []
firsts_by key (x ∷ xs) = x ∷ filter (λ y. not (same_values (key x) (key y))) (firsts_by key xs)
