-- What each operator gives for two values, each with its affinity.
use Rattle.std.specs.Prelude.{Option}
use Rattle.osq_value.specs.declared.value.Value.{Value}
use Rattle.osq_value.specs.declared.catalogue.Affinity.{Affinity}
use Rattle.sql_tree.specs.declared.tree.Operator.{Operator}
use Rattle.sql_tree.specs.declared.tree.Operator.TheVariants.{Or, And, Equal, NotEqual, Is, IsNot, Less, LessEqual, Greater, GreaterEqual, Like, NotLike, Add, Subtract, Multiply, Divide, Remainder, Concat}
use Rattle.sql_scalar.specs.Arithmetic.{sum_of, difference_of, product_of, quotient_of, remainder_of}
use Rattle.sql_scalar.specs.Comparison.{equal_of, not_equal_of, is_of, is_not_of, less_of, less_equal_of, greater_of, greater_equal_of}
use Rattle.sql_scalar.specs.Likeness.{like_of, not_like_of}
use Rattle.sql_scalar.specs.Texts.{concat_of}
use Rattle.sql_scalar.specs.Truth.{and_of, or_of}

abbrev pub apply_of : Operator → Option Affinity → Option Affinity → Value → Value → Value
apply_of Or first second left right = or_of left right
apply_of And first second left right = and_of left right
apply_of Equal first second left right = equal_of first second left right
apply_of NotEqual first second left right = not_equal_of first second left right
apply_of Is first second left right = is_of first second left right
apply_of IsNot first second left right = is_not_of first second left right
apply_of Less first second left right = less_of first second left right
apply_of LessEqual first second left right = less_equal_of first second left right
apply_of Greater first second left right = greater_of first second left right
apply_of GreaterEqual first second left right = greater_equal_of first second left right
apply_of Like first second left right = like_of left right
apply_of NotLike first second left right = not_like_of left right
apply_of Add first second left right = sum_of left right
apply_of Subtract first second left right = difference_of left right
apply_of Multiply first second left right = product_of left right
apply_of Divide first second left right = quotient_of left right
apply_of Remainder first second left right = remainder_of left right
apply_of Concat first second left right = concat_of left right
