-- What an aggregate makes of the rows of a group.
use Rattle.std.specs.Prelude.{ℕ, ℤ, pos, ◌+ℤ◌, List, [], ◌∷◌, length, filter, filter_map, Bool, true, false, if◌then◌else◌, unwrap_or}
use Rattle.std.specs.List.{reduce}
use Rattle.std.specs.Ordering.{is_lt, is_gt}
use Rattle.osq_value.specs.declared.value.Value.{Value}
use Rattle.osq_value.specs.declared.value.Value.TheVariants.{Null, Int}
use Rattle.osq_value.specs.Order.{order_of}
use Rattle.sql_tree.specs.declared.functions.Fold.{Fold}
use Rattle.sql_tree.specs.declared.functions.Fold.TheVariants.{Count, Sum, Min, Max}
use Rattle.sql_scalar.specs.Arithmetic.{whole, within}
use Rattle.sql_meaning.specs.Firsts.{firsts_by}
use Rattle.sql_meaning.specs.Known.{is_known}

-- each value once
abbrev pub different : List Value → List Value
different values = firsts_by (λ value. value ∷ []) values

-- the values that an aggregate looks at: those that aren't Null, and with DISTINCT each of them once
abbrev pub looked_at : Bool → List Value → List Value
looked_at false values = filter is_known values
looked_at true values = different (filter is_known values)

abbrev pub total : List ℤ → ℤ
total [] = pos 0
total (n ∷ ns) = n +ℤ total ns

-- the true sum, which is Null of no numbers and outside 64 bits
abbrev pub sum_over : List ℤ → Value
sum_over [] = Null
sum_over (n ∷ ns) = within (total (n ∷ ns))

abbrev pub lesser : Value → Value → Value
lesser left right = if is_lt (order_of right left) then right else left

abbrev pub greater : Value → Value → Value
greater left right = if is_gt (order_of right left) then right else left

-- the least and the greatest, Null of none
abbrev pub least : List Value → Value
least values = unwrap_or (reduce lesser values) Null

abbrev pub greatest : List Value → Value
greatest values = unwrap_or (reduce greater values) Null

-- an aggregate of the values that it looks at
abbrev pub fold_over : Fold → List Value → Value
fold_over Count values = Int (pos (length values))
fold_over Sum values = sum_over (filter_map whole values)
fold_over Min values = least values
fold_over Max values = greatest values

-- an aggregate over what its argument is in each row of a group
abbrev pub folded_over : Fold → Bool → List Value → Value
folded_over by is_distinct values = fold_over by (looked_at is_distinct values)

-- an aggregate without an argument, over so many rows: only COUNT has that form
abbrev pub counted_rows : Fold → ℕ → Value
counted_rows Count rows = Int (pos rows)
counted_rows Sum rows = Null
counted_rows Min rows = Null
counted_rows Max rows = Null
