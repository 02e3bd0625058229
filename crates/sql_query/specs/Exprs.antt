-- The tree of an expression whose names are resolved, without where it lies in memory.
use Rattle.std.specs.Prelude.{ℕ, Bool, Option}
use Rattle.osq_value.specs.declared.value.Value.{Value}
use Rattle.osq_value.specs.declared.catalogue.Affinity.{Affinity}
use Rattle.sql_tree.specs.declared.functions.Function.{Function}
use Rattle.sql_tree.specs.declared.functions.Fold.{Fold}
use Rattle.sql_tree.specs.declared.tree.Operator.{Operator}
use Rattle.sql_query.specs.declared.place.Place.{Place}

mutual
  pub data ExprTree : Type 0 where
    literal : Value → ExprTree
    column : ℕ → ℕ → ℕ → Option Affinity → ExprTree
    chain : ExprTree → ExprSteps → ExprTree
    negation : ExprTree → ExprTree
    minus : ExprTree → ExprTree
    plus : ExprTree → ExprTree
    cast : ExprTree → Affinity → ExprTree
    call : Function → Exprs → ExprTree
    folded : Fold → Bool → ExprTree → ExprTree
    -- an aggregate without an argument
    count_all : Fold → Bool → ExprTree
    deriving Discrete as ExprTree-discrete

  pub data OneExprStep : Type 0 where
    binary : Operator → ExprTree → OneExprStep
    among : Bool → Exprs → OneExprStep
    between : Bool → ExprTree → ExprTree → OneExprStep

  -- from the left: the steps before, and one more
  pub data ExprSteps : Type 0 where
    no_steps : ExprSteps
    then : ExprSteps → OneExprStep → ExprSteps

  pub data Exprs : Type 0 where
    no_exprs : Exprs
    and_expr : Exprs → ExprTree → Exprs

abbrev pub at_place : Place → ExprTree
at_place place = column place.source place.column place.at place.affinity
