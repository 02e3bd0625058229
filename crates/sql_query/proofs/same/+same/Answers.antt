use Rattle.std.proofs.Common.{◌≡◌, false, true, arith, length, ◌<◌}
use Rattle.sql_query.proofs.Sames.{steps_of_as_many, steps_of_longer, steps_of_part, exprs_of_as_many, exprs_of_longer, exprs_of_part}
use Rattle.sql_query.proofs.same.+same.Goals as goal

pub are_one_chain-returns-then-steps-others : goal.are_one_chain-returns-then-steps-others
are_one_chain-returns-then-steps-others t c = (λ no. absurd (cc), λ same. let many = steps_of_as_many c.args.steps.now c.args.others.now same in absurd (omega arith))

pub are_one_chain-returns-then-not-is_one_step : goal.are_one_chain-returns-then-not-is_one_step
are_one_chain-returns-then-not-is_one_step t c =
    let in_others : c.loop-at.at < length c.args.others.now = omega arith in
    let lengths : length c.args.steps.now ≡ length c.args.others.now = omega arith in (
      λ no. absurd (cc),
      λ same.
          let one = c.is_one_step.ensures.1 (steps_of_part c.args.steps.now c.args.others.now c.loop-at.at c.index-steps-at.result c.index-others-at.result lengths c.loop-at-test.true in_others c.index-steps-at.is c.index-others-at.is same) in
          cc,
    )

pub are_one_chain-loop-at-preserved : goal.are_one_chain-loop-at-preserved
are_one_chain-loop-at-preserved t c =
    let in_others : c.loop-at.at < length c.args.others.now = omega arith in
    let is_true : c.is_one_step.result ≡ true = cc in
    steps_of_longer c.args.steps.now c.args.others.now c.loop-at.at c.index-steps-at.result c.index-others-at.result c.loop-at-test.true in_others c.index-steps-at.is c.index-others-at.is (c.is_one_step.ensures.0 is_true) c.loop-at.invariant

pub are_one_list-returns-then-exprs-others : goal.are_one_list-returns-then-exprs-others
are_one_list-returns-then-exprs-others t c = (λ no. absurd (cc), λ same. let many = exprs_of_as_many c.args.exprs.now c.args.others.now same in absurd (omega arith))

pub are_one_list-returns-then-not-is_one_expr : goal.are_one_list-returns-then-not-is_one_expr
are_one_list-returns-then-not-is_one_expr t c =
    let in_others : c.loop-at.at < length c.args.others.now = omega arith in
    let lengths : length c.args.exprs.now ≡ length c.args.others.now = omega arith in (
      λ no. absurd (cc),
      λ same.
          let one = c.is_one_expr.ensures.1 (exprs_of_part c.args.exprs.now c.args.others.now c.loop-at.at c.index-exprs-at.result c.index-others-at.result lengths c.loop-at-test.true in_others c.index-exprs-at.is c.index-others-at.is same) in
          cc,
    )

pub are_one_list-loop-at-preserved : goal.are_one_list-loop-at-preserved
are_one_list-loop-at-preserved t c =
    let in_others : c.loop-at.at < length c.args.others.now = omega arith in
    let is_true : c.is_one_expr.result ≡ true = cc in
    exprs_of_longer c.args.exprs.now c.args.others.now c.loop-at.at c.index-exprs-at.result c.index-others-at.result c.loop-at-test.true in_others c.index-exprs-at.is c.index-others-at.is (c.is_one_expr.ensures.0 is_true) c.loop-at.invariant
