-- The tree of an expression, without where it lies in memory.
use Rattle.std.specs.Prelude.{ℕ, ℤ, Bool, Option}
use Rattle.sql_tree.specs.declared.span.Span.{Span}
use Rattle.sql_tree.specs.declared.functions.Function.{Function}
use Rattle.sql_tree.specs.declared.functions.Fold.{Fold}
use Rattle.sql_tree.specs.declared.tree.Name.{Name}
use Rattle.sql_tree.specs.declared.tree.Operator.{Operator}

mutual
  pub data Tree : Type 0 where
    number : ℕ → ℤ → Tree
    text : Span → Tree
    null : Tree
    column : Option Name → Name → Tree
    chain : Tree → Steps → Tree
    negation : Tree → Tree
    minus : Tree → Tree
    plus : Tree → Tree
    cast : Tree → Bool → Tree
    call : Function → Trees → Tree
    folded : ℕ → Fold → Bool → Tree → Tree
    count_all : ℕ → Fold → Bool → Tree

  -- one operator with its right side
  pub data OneStep : Type 0 where
    binary : Operator → Tree → OneStep
    among : Bool → Trees → OneStep
    between : Bool → Tree → Tree → OneStep

  -- from the left: the steps before, and one more
  pub data Steps : Type 0 where
    no_steps : Steps
    then : Steps → OneStep → Steps

  pub data Trees : Type 0 where
    no_trees : Trees
    and_tree : Trees → Tree → Trees

-- a chain of no operator is its operand
abbrev pub chained : Tree → Steps → Tree
chained first no_steps = first
chained first (then steps step) = chain first (then steps step)
