use Rattle.std.proofs.Common.{subst}
use Rattle.pack_rules.specs.Sound.{IsRunnable}
use Rattle.state_cases.proofs.Kept.{one_more, all_taken}
use Rattle.state_cases.proofs.ready.are_runnable.Goals as goal

pub loop-query-preserved : goal.loop-query-preserved
loop-query-preserved c =
    one_more IsRunnable c.args.queries.now c.loop-query.query-index c.query-item.result c.loop-query-test.true c.loop-query.invariant (subst IsRunnable c.query-item.is (c.in_ok-is_runnable.ensures c.if-not-branch.false))

pub returns : goal.returns
returns c ready = all_taken IsRunnable c.args.queries.now c.loop-query.query-index c.loop-query-test.false c.loop-query.invariant
