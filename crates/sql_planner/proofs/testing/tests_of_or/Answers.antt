use Rattle.std.proofs.Common.{◌∙◌, List, ap, arith}
use Rattle.std.proofs.lemmas.List.{take_all}
use Rattle.sql_query.specs.declared.tree.ExprStep.{ExprStep}
use Rattle.sql_query.specs.Exprs.{chain}
use Rattle.sql_meaning.specs.Expressions.{alone, is_true, value_of}
use Rattle.sql_query.specs.View.{expr_of, steps_of}
use Rattle.sql_planner.proofs.Asking.{side-then}
use Rattle.sql_planner.proofs.testing.tests_of_or.Goals as goal

pub loop-step-preserved : goal.loop-step-preserved
loop-step-preserved c =
    side-then c.args.first.now c.args.steps.now c.loop-step.step-index c.step-item.result (expr_of c.in-Some.side.now) c.loop-step.tests c.push.new.self c.in_ok-test_for.field-0
    (omega (arith, c.loop-step-test.true)) c.step-item.is c.in-Some.ensures c.in_ok-push.ensures.ok c.in_ok-test_for.ensures c.loop-step.invariant

pub returns : goal.returns
returns c = λ row.
    c.loop-step.invariant row
    ∙ ap (λ (steps : List ExprStep). is_true (value_of (alone row) (chain (expr_of c.args.first.now) (steps_of steps)))) (take_all c.loop-step.step-index c.args.steps.now (let h = c.loop-step-test.false in omega (arith, h)))
