-- What an expression is worth.
use Rattle.std.specs.Prelude.{ℕ, Bool, true, false, ◌&&◌, List, [], ◌∷◌, ◌++◌, get_or, Option, Some, None}
use Rattle.osq_value.specs.declared.value.Value.{Value}
use Rattle.osq_value.specs.declared.value.Value.TheVariants.{Null}
use Rattle.osq_value.specs.declared.catalogue.Affinity.{Affinity}
use Rattle.osq_value.specs.declared.catalogue.Affinity.TheVariants as affinity
use Rattle.osq_value.specs.Casts.{cast_int_of, cast_text_of}
use Rattle.sql_tree.specs.declared.functions.Fold.{Fold}
use Rattle.sql_scalar.specs.Arithmetic.{minus_of, plus_of}
use Rattle.sql_scalar.specs.Comparison.{in_of, between_of}
use Rattle.sql_scalar.specs.Functions.{call_of}
use Rattle.sql_scalar.specs.Operators.{apply_of}
use Rattle.sql_scalar.specs.Truth.{truth_of, not_of}
use Rattle.sql_query.specs.Exprs.{ExprTree, OneExprStep, ExprSteps, Exprs}
use Rattle.sql_query.specs.Exprs as expr

-- what an expression sees: the values of a row by their places, and what each aggregate gives
pub record Environment : Type 0 where
  pub row : List Value
  pub aggregate : Fold → Bool → Option ExprTree → Value

-- a place beyond the row holds Null
abbrev pub value_at : List Value → ℕ → Value
value_at row place = get_or row place Null

-- a column and a cast have an affinity, and nothing else has
abbrev pub affinity_of : ExprTree → Option Affinity
affinity_of (expr.literal value) = None
affinity_of (expr.column source column place affinity) = affinity
affinity_of (expr.chain first steps) = None
affinity_of (expr.negation e) = None
affinity_of (expr.minus e) = None
affinity_of (expr.plus e) = None
affinity_of (expr.cast e affinity) = Some affinity
affinity_of (expr.call function arguments) = None
affinity_of (expr.folded fold is_distinct e) = None
affinity_of (expr.count_all fold is_distinct) = None

-- the first step of a chain sees the affinity of the first operand; what steps gave has none
abbrev pub affinity_after : Option Affinity → ExprSteps → Option Affinity
affinity_after first expr.no_steps = first
affinity_after first (expr.then before step) = None

abbrev pub cast_of : Affinity → Value → Value
cast_of affinity.Integer value = cast_int_of value
cast_of affinity.Text value = cast_text_of value

-- the form with NOT is the negation
abbrev pub negated : Bool → Value → Value
negated false value = value
negated true value = not_of value

abbrev mutual
  pub value_of : Environment → ExprTree → Value
  value_of env (expr.literal value) = value
  value_of env (expr.column source column place affinity) = value_at env.row place
  value_of env (expr.chain first steps) = value_after env (affinity_of first) (value_of env first) steps
  value_of env (expr.negation e) = not_of (value_of env e)
  value_of env (expr.minus e) = minus_of (value_of env e)
  value_of env (expr.plus e) = plus_of (value_of env e)
  value_of env (expr.cast e affinity) = cast_of affinity (value_of env e)
  value_of env (expr.call function arguments) = call_of function (values_of env arguments)
  value_of env (expr.folded fold is_distinct e) = env.aggregate fold is_distinct (Some e)
  value_of env (expr.count_all fold is_distinct) = env.aggregate fold is_distinct None

  -- what a step makes of its left side, which has this affinity and this value
  pub value_by : Environment → Option Affinity → Value → OneExprStep → Value
  value_by env left value (expr.binary op right) = apply_of op left (affinity_of right) value (value_of env right)
  value_by env left value (expr.among is_negated items) = negated is_negated (in_of left value (values_of env items))
  value_by env left value (expr.between is_negated low high) = negated is_negated (between_of left (affinity_of low) (affinity_of high) value (value_of env low) (value_of env high))

  -- what steps make of a first operand, from the left
  pub value_after : Environment → Option Affinity → Value → ExprSteps → Value
  value_after env first value expr.no_steps = value
  value_after env first value (expr.then before step) = value_by env (affinity_after first before) (value_after env first value before) step

  pub values_of : Environment → Exprs → List Value
  values_of env expr.no_exprs = []
  values_of env (expr.and_expr before e) = values_of env before ++ value_of env e ∷ []

-- outside of groups an aggregate is Null
abbrev pub no_aggregate : Fold → Bool → Option ExprTree → Value
no_aggregate fold is_distinct argument = Null

-- a row by itself
abbrev pub alone : List Value → Environment
alone row = record { row = row; aggregate = no_aggregate }

abbrev pub is_true_truth : Option Bool → Bool
is_true_truth None = false
is_true_truth (Some truth) = truth

abbrev pub is_true : Value → Bool
is_true value = is_true_truth (truth_of value)

-- each part of a condition is true
abbrev pub holds : Environment → List ExprTree → Bool
holds env [] = true
holds env (part ∷ parts) = is_true (value_of env part) && holds env parts
