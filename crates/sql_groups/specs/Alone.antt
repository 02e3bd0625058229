-- For proofs of the code's steps, and no part of the meaning: expressions without an aggregate.
use Rattle.std.specs.Prelude.{◌≡◌, Option}
use Rattle.osq_value.specs.declared.value.Value.{Value}
use Rattle.osq_value.specs.declared.catalogue.Affinity.{Affinity}
use Rattle.sql_query.specs.Exprs.{ExprTree, OneExprStep, ExprSteps, Exprs}
use Rattle.sql_meaning.specs.Expressions.{Environment, alone, value_of, value_by, value_after, values_of}

-- the value is the same, whatever aggregates give
abbrev pub IsAlone : ExprTree → Type 0
IsAlone e = (env : Environment) → value_of env e ≡ value_of (alone env.row) e

abbrev pub AreAlone : Exprs → Type 0
AreAlone es = (env : Environment) → values_of env es ≡ values_of (alone env.row) es

-- of each left side a step makes the same
abbrev pub IsStepAlone : OneExprStep → Type 0
IsStepAlone step = (env : Environment) (left : Option Affinity) (value : Value) → value_by env left value step ≡ value_by (alone env.row) left value step

abbrev pub AreStepsAlone : ExprSteps → Type 0
AreStepsAlone steps = (env : Environment) (first : Option Affinity) (value : Value) → value_after env first value steps ≡ value_after (alone env.row) first value steps
