-- The literal that a scan compares with in place of the text's.
use Rattle.std.proofs.Common.{◌≡◌, ◌∙◌, refl, sym, ap₂, Option, None}
use Rattle.osq_value.specs.declared.value.Value.{Value}
use Rattle.osq_value.specs.declared.catalogue.Affinity.{Affinity}
use Rattle.sql_scalar.specs.Operators.{apply_of}
use Rattle.virtual_tables.specs.declared.constraint.ConstraintOp.{ConstraintOp}
use Rattle.virtual_tables.specs.declared.constraint.ConstraintOp.TheVariants.{Eq, Lt, Le, Gt, Ge}
use Rattle.virtual_tables.specs.Constraints.{operator_of}
use Rattle.virtual_tables.specs.Tests.{turned}
use Rattle.sql_planner.specs.Reading.{IsLiteralFor}
use Rattle.sql_planner.specs.RowTests.{turned_by}
use Rattle.sql_planner.proofs.Asking.{applied-turned}

-- each constraint is a comparison, which looks at affinities
turned-for : (op : ConstraintOp) (affinity : Option Affinity) (literal : Value) → turned affinity literal ≡ turned_by (operator_of op) affinity literal
turned-for Eq affinity literal = refl
turned-for Lt affinity literal = refl
turned-for Le affinity literal = refl
turned-for Gt affinity literal = refl
turned-for Ge affinity literal = refl

-- the scan sees the text's affinity
pub literal-same : (seen affinity : Option Affinity) (literal value : Value) → seen ≡ affinity → value ≡ literal → IsLiteralFor seen affinity literal value
literal-same seen affinity literal value seen-is value-is = λ op left.
    ap₂ (λ (a : Option Affinity) (v : Value). apply_of (operator_of op) a None left v) seen-is value-is

-- the scan sees none
pub literal-turned : (seen affinity : Option Affinity) (literal value : Value) → seen ≡ None → value ≡ turned affinity literal → IsLiteralFor seen affinity literal value
literal-turned seen affinity literal value seen-is value-is = λ op left.
    ap₂ (λ (a : Option Affinity) (v : Value). apply_of (operator_of op) a None left v) seen-is (value-is ∙ turned-for op affinity literal)
    ∙ applied-turned (operator_of op) affinity left literal
