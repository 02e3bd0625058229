use Rattle.std.proofs.Common.{◌≡◌, ◌∙◌, IfOk, IfSome, List, ap, subst, sym}
use Rattle.osq_value.specs.declared.value.Value.{Value}
use Rattle.sql_query.specs.Exprs.{OneExprStep, among}
use Rattle.sql_query.specs.View.{exprs_of, step_of}
use Rattle.sql_query.specs.declared.tree.Expr.{Expr}
use Rattle.sql_meaning.specs.Expressions.{alone, is_true, value_by}
use Rattle.sql_planner.specs.RowTests.{passes}
use Rattle.sql_planner.proofs.Seen.{in-seen}
use Rattle.sql_planner.proofs.testing.step_test.Goals as goal

pub returns-in-In : goal.returns-in-In
returns-in-In c =
    subst (λ (step : OneExprStep). IfOk c.chosen.result (λ found. IfSome found (λ test. (row : List Value) (value : Value) → passes test value ≡ is_true (value_by (alone row) c.args.affinity value step))))
    (ap (λ (items : List Expr). among c.in-In.is_negated (exprs_of items)) c.as_slice.ensures.value ∙ sym (in-seen c.in-In.is_negated c.in-In.items) ∙ sym (ap step_of c.in-In.is)) c.chosen.ensures
