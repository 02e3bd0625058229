-- Tests of rows: what each of them asks.
use Rattle.std.specs.Prelude.{Bool, true, false, not, ◌||◌, List, [], ◌∷◌, Option, Some, None}
use Rattle.std.specs.List.{list_any}
use Rattle.osq_value.specs.declared.value.Value.{Value}
use Rattle.osq_value.specs.declared.value.Value.TheVariants.{Null, Int, Text}
use Rattle.osq_value.specs.declared.catalogue.Affinity.{Affinity}
use Rattle.osq_value.specs.contracts.value.ValuePartialEq.TheImpl as equality
use Rattle.sql_tree.specs.declared.tree.Operator.{Operator}
use Rattle.sql_tree.specs.declared.tree.Operator.TheVariants as operator
use Rattle.sql_query.specs.View.{expr_of}
use Rattle.sql_scalar.specs.Comparison.{between_of}
use Rattle.sql_scalar.specs.Operators.{apply_of}
use Rattle.sql_scalar.specs.Truth.{from_truth}
use Rattle.sql_meaning.specs.Expressions.{alone, is_true, negated, value_of}
use Rattle.virtual_tables.specs.Tests.{turned}
use Rattle.sql_planner.specs.declared.item_set.ItemSet.{ItemSet}
use Rattle.sql_planner.specs.declared.row_tests.RowTest.{RowTest}
use Rattle.sql_planner.specs.declared.row_tests.ValueTest.{ValueTest}
use Rattle.sql_planner.specs.declared.row_tests.ValueTest.TheVariants as test

abbrev pub is_null : Value → Bool
is_null Null = true
is_null (Int n) = false
is_null (Text s) = false

abbrev pub is_empty : List Value → Bool
is_empty [] = true
is_empty (value ∷ values) = false

-- where a value isn't among the others, it is unknown whether it is, if Null is one of them
abbrev pub not_found : Bool → Option Bool
not_found true = None
not_found false = Some false

abbrev pub found_if : Bool → Bool → Option Bool
found_if true has_null = Some true
found_if false has_null = not_found has_null

-- whether a value is one of others, beside which Null may stand: of Null that is unknown, but it is not one of none
abbrev pub found_among : List Value → Bool → Value → Option Bool
found_among values has_null Null = not_found (has_null || not (is_empty values))
found_among values has_null (Int n) = found_if (list_any (equality.eq-value.it (Int n)) values) has_null
found_among values has_null (Text s) = found_if (list_any (equality.eq-value.it (Text s)) values) has_null

abbrev pub found_in : ItemSet → Value → Option Bool
found_in items value = found_among items.values.keys items.has_null value

abbrev pub passes : ValueTest → Value → Bool
passes test.IsTrue value = is_true value
passes (test.Applied op constant) value = is_true (apply_of op None None value constant)
passes (test.Between is_negated low high) value = is_true (negated is_negated (between_of None None None value low high))
passes (test.Among is_negated items) value = is_true (negated is_negated (from_truth (found_in items value)))

-- the test of what the expression is worth over a row
abbrev pub passes_one : List Value → RowTest → Bool
passes_one row asked = passes asked.test (value_of (alone row) (expr_of asked.left.now))

abbrev pub passes_some : List Value → List RowTest → Bool
passes_some row tests = list_any (passes_one row) tests

-- a constant at the right of an operator whose left side has this affinity: comparisons alone look at affinities
abbrev pub turned_by : Operator → Option Affinity → Value → Value
turned_by operator.Or first value = value
turned_by operator.And first value = value
turned_by operator.Equal first value = turned first value
turned_by operator.NotEqual first value = turned first value
turned_by operator.Is first value = turned first value
turned_by operator.IsNot first value = turned first value
turned_by operator.Less first value = turned first value
turned_by operator.LessEqual first value = turned first value
turned_by operator.Greater first value = turned first value
turned_by operator.GreaterEqual first value = turned first value
turned_by operator.Like first value = value
turned_by operator.NotLike first value = value
turned_by operator.Add first value = value
turned_by operator.Subtract first value = value
turned_by operator.Multiply first value = value
turned_by operator.Divide first value = value
turned_by operator.Remainder first value = value
turned_by operator.Concat first value = value
