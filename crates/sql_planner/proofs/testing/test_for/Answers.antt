use Rattle.std.proofs.Common.{◌≡◌, ◌∙◌, IfSome, List, Option, ap, ap₂, subst, sym}
use Rattle.osq_value.specs.declared.value.Value.{Value}
use Rattle.sql_query.specs.Exprs.{chain}
use Rattle.sql_query.specs.View.{expr_of, steps_of}
use Rattle.sql_query.specs.declared.tree.Expr.{Expr}
use Rattle.sql_query.specs.declared.tree.ExprStep.{ExprStep}
use Rattle.sql_meaning.specs.Expressions.{affinity_of, alone, is_true, value_after}
use Rattle.sql_planner.specs.declared.row_tests.ValueTest.{ValueTest}
use Rattle.sql_planner.specs.RowTests.{passes}
use Rattle.sql_planner.proofs.Asking.{first-is}
use Rattle.sql_planner.proofs.Seen.{chain-seen}
use Rattle.sql_planner.proofs.testing.test_for.Goals as goal

pub returns-in-Some : goal.returns-in-Some
returns-in-Some c = λ row.
    let first = expr_of c.deref-in-Some.result.now in
    let told = subst (λ (o : Option ValueTest). IfSome o (λ test. (row : List Value) (value : Value) → passes test value ≡ is_true (value_after (alone row) c.affinity_of.result value (steps_of c.as_slice.result.now)))) c.in-Some.is c.in_ok-test.ensures in
    first-is (expr_of c.args.expr.now) first c.as_slice.result.now c.affinity_of.result c.in-Some.test
    (ap expr_of c.in-Chain.is ∙ chain-seen c.in-Chain.first c.in-Chain.steps ∙ ap₂ (λ (f : Expr) (s : List ExprStep). chain (expr_of f) (steps_of s)) (sym c.deref-in-Some.ensures) (sym c.as_slice.ensures.value))
    (c.affinity_of.ensures ∙ ap (λ (f : Expr). affinity_of (expr_of f)) (c.deref.ensures ∙ sym c.deref-in-Some.ensures)) told row
