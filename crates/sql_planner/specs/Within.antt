-- Expressions that look at the first values of a row alone.
use Rattle.std.specs.Prelude.{◌≡◌, ◌≤◌, ℕ, List, ◌++◌, length, Option}
use Rattle.osq_value.specs.declared.value.Value.{Value}
use Rattle.osq_value.specs.declared.catalogue.Affinity.{Affinity}
use Rattle.sql_query.specs.Exprs.{ExprTree, OneExprStep, ExprSteps, Exprs}
use Rattle.sql_meaning.specs.Expressions.{alone, value_of, value_by, value_after, values_of}

-- the value is the same, whatever stands behind so many values of a row
abbrev pub IsWithin : ℕ → ExprTree → Type 0
IsWithin width e = (row more : List Value) → width ≤ length row → value_of (alone (row ++ more)) e ≡ value_of (alone row) e

abbrev pub AreWithin : ℕ → Exprs → Type 0
AreWithin width es = (row more : List Value) → width ≤ length row → values_of (alone (row ++ more)) es ≡ values_of (alone row) es

-- of each left side a step makes the same
abbrev pub IsStepWithin : ℕ → OneExprStep → Type 0
IsStepWithin width step =
    (row more : List Value) → width ≤ length row → (left : Option Affinity) (value : Value) → value_by (alone (row ++ more)) left value step ≡ value_by (alone row) left value step

abbrev pub AreStepsWithin : ℕ → ExprSteps → Type 0
AreStepsWithin width steps =
    (row more : List Value) → width ≤ length row → (first : Option Affinity) (value : Value) → value_after (alone (row ++ more)) first value steps ≡ value_after (alone row) first value steps
