-- The stable order by keys.
use Rattle.std.specs.Prelude.{List, [], ◌∷◌, drop, Bool, true, false, if◌then◌else◌, slice_index_or}
use Rattle.std.specs.Ordering.{is_lt, ordering_reverse, ordering_then}
use Rattle.std.specs.declared.cmp.Ordering.{Ordering}
use Rattle.std.specs.declared.cmp.Ordering.TheVariants.{Equal}
use Rattle.osq_value.specs.declared.value.Value.{Value}
use Rattle.osq_value.specs.declared.value.Value.TheVariants.{Null}
use Rattle.osq_value.specs.Order.{order_of}

-- the first key, which is Null where there is none
abbrev pub first_key : List Value → Value
first_key values = slice_index_or values 0 Null

-- turned round where it is descending
abbrev pub directed : Bool → Ordering → Ordering
directed false order = order
directed true order = ordering_reverse order

-- the order of two rows by their keys, one key after another: a true stands for a descending key
abbrev pub order_by : List Bool → List Value → List Value → Ordering
order_by [] lefts rights = Equal
order_by (is_descending ∷ others) lefts rights =
    ordering_then (directed is_descending (order_of (first_key lefts) (first_key rights))) (order_by others (drop 1 lefts) (drop 1 rights))

-- put in before the first that isn't less
abbrev pub put_in : {X : Type 0} → (X → X → Bool) → X → List X → List X
put_in is_less x [] = x ∷ []
put_in is_less x (y ∷ ys) = if is_less y x then y ∷ put_in is_less x ys else x ∷ y ∷ ys

-- the others in order, and the first put in before those that it ties with
abbrev pub sorted_by : {X : Type 0} → (X → X → Bool) → List X → List X
sorted_by is_less [] = []
sorted_by is_less (x ∷ xs) = put_in is_less x (sorted_by is_less xs)

abbrev pub ordered_by : {X : Type 0} → (X → List Value) → List Bool → List X → List X
ordered_by key descending xs = sorted_by (λ x y. is_lt (order_by descending (key x) (key y))) xs
