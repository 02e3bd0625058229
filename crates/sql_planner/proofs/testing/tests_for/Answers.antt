use Rattle.std.proofs.Common.{◌≡◌, ◌∙◌, IfSome, List, Option, ap, ap₂, subst, sym}
use Rattle.osq_value.specs.declared.value.Value.{Value}
use Rattle.sql_query.specs.Exprs.{ExprTree, chain}
use Rattle.sql_query.specs.View.{expr_of, steps_of}
use Rattle.sql_query.specs.declared.tree.Expr.{Expr}
use Rattle.sql_query.specs.declared.tree.ExprStep.{ExprStep}
use Rattle.sql_meaning.specs.Expressions.{alone, is_true, value_of}
use Rattle.sql_planner.specs.declared.row_tests.RowTest.{RowTest}
use Rattle.sql_planner.specs.RowTests.{passes_some}
use Rattle.sql_planner.proofs.Seen.{chain-seen}
use Rattle.sql_planner.proofs.testing.tests_for.Goals as goal

pub returns-in-Some : goal.returns-in-Some
returns-in-Some c = λ row.
    let told = subst (λ (o : Option (List RowTest)). IfSome o (λ tests. (row : List Value) → passes_some row tests ≡ is_true (value_of (alone row) (chain (expr_of c.deref.result.now) (steps_of c.as_slice.result.now))))) c.in-Some.is c.in_ok-tests.ensures in
    told row
    ∙ ap (λ (t : ExprTree). is_true (value_of (alone row) t))
    (ap₂ (λ (f : Expr) (s : List ExprStep). chain (expr_of f) (steps_of s)) c.deref.ensures c.as_slice.ensures.value ∙ sym (chain-seen c.in-Chain.first c.in-Chain.steps) ∙ sym (ap expr_of c.in-Chain.is))
