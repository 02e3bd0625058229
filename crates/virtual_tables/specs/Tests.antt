-- A constraint as it is tested: its literal is turned once, and then only the order is looked at.
use Rattle.std.specs.Prelude.{ℕ, Bool, false, List, get_or, unwrap_or, Option, Some, None}
use Rattle.std.specs.Ordering.{is_eq, is_lt, is_le, is_gt, is_ge}
use Rattle.std.specs.declared.cmp.Ordering.{Ordering}
use Rattle.osq_value.specs.declared.value.Value.{Value}
use Rattle.osq_value.specs.declared.value.Value.TheVariants.{Null}
use Rattle.osq_value.specs.declared.catalogue.Affinity.{Affinity}
use Rattle.osq_value.specs.declared.catalogue.Affinity.TheVariants as affinity
use Rattle.osq_value.specs.Casts.{cast_text_of}
use Rattle.osq_value.specs.Order.{order_of}
use Rattle.sql_scalar.specs.Comparison.{spelled, unless_null}
use Rattle.virtual_tables.specs.declared.constraint.Constraint.{Constraint}
use Rattle.virtual_tables.specs.declared.constraint.ConstraintOp.{ConstraintOp}
use Rattle.virtual_tables.specs.declared.constraint.ConstraintOp.TheVariants.{Eq, Lt, Le, Gt, Ge}
use Rattle.virtual_tables.specs.Constraints.{affinity_at}

-- a literal, as it is compared with a column of that affinity
abbrev pub turned : Option Affinity → Value → Value
turned None value = value
turned (Some affinity.Integer) value = spelled value
turned (Some affinity.Text) value = cast_text_of value

abbrev pub tested : ℕ → Constraint → Constraint
tested table constraint = record { column = constraint.column; op = constraint.op; value = turned (affinity_at table constraint.column) constraint.value }

abbrev pub wanted : ConstraintOp → Ordering → Bool
wanted Eq order = is_eq order
wanted Lt order = is_lt order
wanted Le order = is_le order
wanted Gt order = is_gt order
wanted Ge order = is_ge order

-- neither value is Null, and their order is wanted
abbrev pub is_passed : ConstraintOp → Value → Value → Bool
is_passed op left right = unwrap_or (unless_null left right (wanted op (order_of left right))) false

abbrev pub passes : List Value → Constraint → Bool
passes row test = is_passed test.op (get_or row test.column Null) test.value
