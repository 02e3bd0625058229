-- For proofs of the code's steps, and no part of the meaning: what HAVING asks of columns that were folded.
use Rattle.std.specs.Prelude.{◌≡◌, Bool, true, false, ◌&&◌, List, [], ◌∷◌, ◌++◌, length, map}
use Rattle.osq_value.specs.declared.value.Value.{Value}
use Rattle.sql_tree.specs.declared.tree.Operator.{Operator}
use Rattle.sql_scalar.specs.Operators.{apply_of}
use Rattle.sql_query.specs.Exprs.{ExprTree, binary, chain, no_steps, then}
use Rattle.sql_query.specs.Resolved.{QueryTree}
use Rattle.sql_meaning.specs.Expressions.{holds, is_true, value_of}
use Rattle.sql_meaning.specs.Steps.{result_row, together}
use Rattle.sql_groups.specs.declared.having.GroupTest.{GroupTest}
use Rattle.sql_groups.specs.declared.having.GroupTest.TheVariants as test
use Rattle.sql_groups.specs.declared.having.Grouping.{Grouping}
use Rattle.sql_groups.specs.declared.items.GroupItem.{GroupItem}
use Rattle.sql_groups.specs.Folding.{item_over}

-- each test holds of the next values
abbrev pub tests_hold : List GroupTest → List Value → Bool
tests_hold [] values = true
tests_hold (test.Plain ∷ tests) [] = false
tests_hold (test.Plain ∷ tests) (value ∷ values) = is_true value && tests_hold tests values
tests_hold (test.Applied op first second ∷ tests) [] = false
tests_hold (test.Applied op first second ∷ tests) (left ∷ []) = false
tests_hold (test.Applied op first second ∷ tests) (left ∷ right ∷ values) = is_true (apply_of op first second left right) && tests_hold tests values

-- the values of columns for a group
abbrev pub over_all : List GroupItem → List (List Value) → List Value
over_all items rows = map (λ item. item_over item rows) items

-- an expression with an operator and another
abbrev pub compared : ExprTree → Operator → ExprTree → ExprTree
compared first op right = chain first (then no_steps (binary op right))

-- one conjunct more, with its sides
pub record AddsTest (part : ExprTree) (rows : List (List Value)) (old : List GroupItem) (tests : List GroupTest) (new : List GroupItem) (more : List GroupTest) : Type 0 where
  pub test : GroupTest
  pub sides : List Value
  pub tested : more ≡ tests ++ test ∷ []
  pub sided : over_all new rows ≡ over_all old rows ++ sides
  pub means : (others : List GroupTest) (values : List Value) → tests_hold (test ∷ others) (sides ++ values) ≡ (is_true (value_of (together rows) part) && tests_hold others values)

-- some more, with theirs
pub record HasSides (parts : List ExprTree) (rows : List (List Value)) (old : List GroupItem) (tests : List GroupTest) (new : List GroupItem) (more : List GroupTest) : Type 0 where
  pub made : List GroupTest
  pub sides : List Value
  pub tested : more ≡ tests ++ made
  pub sided : over_all new rows ≡ over_all old rows ++ sides
  pub means : tests_hold made sides ≡ holds (together rows) parts

-- what is folded is the row of the result and the sides of HAVING
pub record Gives (query : QueryTree) (grouping : Grouping) (rows : List (List Value)) : Type 0 where
  pub sides : List Value
  pub folded : over_all grouping.items rows ≡ result_row query (together rows) ++ sides
  pub long : grouping.count ≡ length (result_row query (together rows))
  pub means : tests_hold grouping.tests.items sides ≡ holds (together rows) query.having

abbrev pub IsGrouping : QueryTree → Grouping → Type 0
IsGrouping query grouping = (rows : List (List Value)) → Gives query grouping rows
