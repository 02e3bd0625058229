-- Comparisons. The affinity of one side may turn a value of the other side before the two are compared.
use Rattle.std.specs.Prelude.{Option, Some, None, Bool, false, List, [], ◌∷◌}
use Rattle.std.specs.Option.{option_map_or}
use Rattle.std.specs.Ordering.{is_eq, is_ne, is_lt, is_le, is_gt, is_ge}
use Rattle.std.specs.declared.cmp.Ordering.{Ordering}
use Rattle.osq_value.specs.declared.value.Value.{Value}
use Rattle.osq_value.specs.declared.value.Value.TheVariants.{Null, Int, Text}
use Rattle.osq_value.specs.declared.catalogue.Affinity.{Affinity}
use Rattle.osq_value.specs.declared.catalogue.Affinity.TheVariants as affinity
use Rattle.osq_value.specs.Casts.{cast_text_of}
use Rattle.osq_value.specs.Order.{order_of}
use Rattle.osq_value.specs.Spelling.{int_of}
use Rattle.sql_scalar.specs.Truth.{from_truth, and_of, or_of}

-- a text that spells a whole number becomes that number
abbrev pub spelled : Value → Value
spelled Null = Null
spelled (Int n) = Int n
spelled (Text s) = option_map_or Int (int_of s) (Text s)

-- the order of two sides, each with its affinity
abbrev pub compared : Option Affinity → Option Affinity → Value → Value → Ordering
compared (Some affinity.Integer) (Some affinity.Integer) left right = order_of left right
compared (Some affinity.Integer) (Some affinity.Text) left right = order_of left (spelled right)
compared (Some affinity.Integer) None left right = order_of left (spelled right)
compared (Some affinity.Text) (Some affinity.Integer) left right = order_of (spelled left) right
compared (Some affinity.Text) (Some affinity.Text) left right = order_of left right
compared (Some affinity.Text) None left right = order_of left (cast_text_of right)
compared None (Some affinity.Integer) left right = order_of (spelled left) right
compared None (Some affinity.Text) left right = order_of (cast_text_of left) right
compared None None left right = order_of left right

-- unknown where a side is Null
abbrev pub unless_null : Value → Value → Bool → Option Bool
unless_null Null Null test = None
unless_null Null (Int n) test = None
unless_null Null (Text s) test = None
unless_null (Int m) Null test = None
unless_null (Int m) (Int n) test = Some test
unless_null (Int m) (Text s) test = Some test
unless_null (Text r) Null test = None
unless_null (Text r) (Int n) test = Some test
unless_null (Text r) (Text s) test = Some test

module _ (first second : Option Affinity) (left right : Value) where
  -- a comparison by a test of the order
  abbrev pub tested : (Ordering → Bool) → Value
  tested test = from_truth (unless_null left right (test (compared first second left right)))

  abbrev pub equal_of : Value
  equal_of = tested is_eq

  abbrev pub not_equal_of : Value
  not_equal_of = tested is_ne

  abbrev pub less_of : Value
  less_of = tested is_lt

  abbrev pub less_equal_of : Value
  less_equal_of = tested is_le

  abbrev pub greater_of : Value
  greater_of = tested is_gt

  abbrev pub greater_equal_of : Value
  greater_equal_of = tested is_ge

  -- `IS` and `IS NOT` hold Null equal to Null
  abbrev pub is_of : Value
  is_of = from_truth (Some (is_eq (compared first second left right)))

  abbrev pub is_not_of : Value
  is_not_of = from_truth (Some (is_ne (compared first second left right)))

-- `x IN (list)`: the OR of the equalities, 0 for an empty list. The list has no affinity
abbrev pub in_of : Option Affinity → Value → List Value → Value
in_of first value [] = from_truth (Some false)
in_of first value (item ∷ rest) = or_of (equal_of first None value item) (in_of first value rest)

-- `x BETWEEN y AND z`, each of the three with its affinity
abbrev pub between_of : Option Affinity → Option Affinity → Option Affinity → Value → Value → Value → Value
between_of first second third value low high = and_of (greater_equal_of first second value low) (less_equal_of first third value high)
