use Rattle.std.proofs.Common.{◌∙◌}
use Rattle.sql_meaning.specs.Over.{environment_of}
use Rattle.sql_meaning.specs.Worths.{worth_of}
use Rattle.sql_meaning.proofs.Parts.{in-then, value_then, affinity_then, values_then}
use Rattle.sql_meaning.proofs.expressions.+evaluate.Goals as goal

pub among-loop-item-preserved : goal.among-loop-item-preserved
among-loop-item-preserved t c =
    in-then (environment_of c.args.over) c.args.affinity c.args.left.now c.args.items.now c.loop-item.item-index c.item-item.result c.loop-item.found c.as_value.result.now c.in_ok-equal.equal c.in_ok-found.found c.loop-item-test.true c.item-item.is c.loop-item.invariant (c.as_value.ensures ∙ c.in_ok-right.ensures) c.in_ok-equal.ensures.applied c.in_ok-found.ensures.applied

pub chain-loop-step-preserved : goal.chain-loop-step-preserved
chain-loop-step-preserved t c = (
  value_then (environment_of c.args.over) c.args.affinity (worth_of c.args.first) c.args.steps.now c.loop-step.step-index c.step-item.result c.loop-step.affinity c.as_value.result.now c.in_ok-step_value.field-0 c.loop-step-test.true c.step-item.is (c.as_value.ensures ∙ c.loop-step.invariant.0) c.loop-step.invariant.1 c.in_ok-step_value.ensures,
  affinity_then c.args.affinity c.args.steps.now c.loop-step.step-index c.step-item.result c.loop-step-test.true c.step-item.is,
)

pub values-loop-expr-preserved : goal.values-loop-expr-preserved
values-loop-expr-preserved t c =
    values_then (environment_of c.args.over) c.args.exprs.now c.loop-expr.expr-index c.expr-item.result c.loop-expr.row c.push.new.self c.in_ok-into_value.field-0 c.loop-expr-test.true c.expr-item.is c.loop-expr.invariant c.in_ok-push.ensures.ok (c.in_ok-into_value.ensures ∙ c.in_ok-evaluate_over.ensures)
