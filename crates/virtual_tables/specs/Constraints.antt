-- What constraints say of a row.
use Rattle.std.specs.Prelude.{ℕ, Bool, false, List, get_or, slice_get, unwrap_or, Option, None}
use Rattle.std.specs.List.{list_all}
use Rattle.std.specs.Option.{option_map}
use Rattle.osq_value.specs.declared.value.Value.{Value}
use Rattle.osq_value.specs.declared.value.Value.TheVariants.{Null}
use Rattle.osq_value.specs.declared.catalogue.Affinity.{Affinity}
use Rattle.osq_value.specs.Catalogue.{Column, columns_of}
use Rattle.sql_tree.specs.declared.tree.Operator.{Operator}
use Rattle.sql_tree.specs.declared.tree.Operator.TheVariants as operator
use Rattle.sql_scalar.specs.Operators.{apply_of}
use Rattle.sql_scalar.specs.Truth.{truth_of}
use Rattle.virtual_tables.specs.declared.constraint.Constraint.{Constraint}
use Rattle.virtual_tables.specs.declared.constraint.ConstraintOp.{ConstraintOp}
use Rattle.virtual_tables.specs.declared.constraint.ConstraintOp.TheVariants.{Eq, Lt, Le, Gt, Ge}

abbrev pub operator_of : ConstraintOp → Operator
operator_of Eq = operator.Equal
operator_of Lt = operator.Less
operator_of Le = operator.LessEqual
operator_of Gt = operator.Greater
operator_of Ge = operator.GreaterEqual

-- the affinity of a column of a table, none where there is no such column
abbrev pub affinity_at : ℕ → ℕ → Option Affinity
affinity_at table column = option_map (λ (found : Column). found.affinity) (slice_get (columns_of table) column)

-- what the operator gives for the column, with its affinity, and the literal, which has none; a place beyond the row holds Null
abbrev pub comparison : ℕ → Constraint → List Value → Value
comparison table constraint row = apply_of (operator_of constraint.op) (affinity_at table constraint.column) None (get_or row constraint.column Null) constraint.value

abbrev pub is_met : ℕ → List Value → Constraint → Bool
is_met table row constraint = unwrap_or (truth_of (comparison table constraint row)) false

-- each of the constraints is true
abbrev pub meets : ℕ → List Constraint → List Value → Bool
meets table constraints row = list_all (is_met table row) constraints
