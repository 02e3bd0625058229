-- The order of values: Null before whole numbers before texts, numbers by size and texts by bytes.
use Rattle.std.specs.Ordering.{nat_cmp, int_cmp}
use Rattle.std.specs.Cmp.Lexicographic.{slice_cmp}
use Rattle.std.specs.declared.cmp.Ordering.{Ordering}
use Rattle.std.specs.declared.cmp.Ordering.TheVariants.{Less, Equal, Greater}
use Rattle.osq_value.specs.declared.value.Value.{Value}
use Rattle.osq_value.specs.declared.value.Value.TheVariants.{Null, Int, Text}

abbrev pub order_of : Value → Value → Ordering
order_of Null Null = Equal
order_of Null (Int n) = Less
order_of Null (Text s) = Less
order_of (Int m) Null = Greater
order_of (Int m) (Int n) = int_cmp m n
order_of (Int m) (Text s) = Less
order_of (Text r) Null = Greater
order_of (Text r) (Int n) = Greater
order_of (Text r) (Text s) = slice_cmp nat_cmp r s
