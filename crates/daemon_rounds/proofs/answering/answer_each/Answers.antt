use Rattle.std.proofs.Common.{◌≡◌, Err, rules}
use Rattle.daemon_rounds.specs.declared.error.RoundError.TheVariants.{NumbersSpent}
use Rattle.daemon_rounds.proofs.AllAnswered.{all_answered, none_left, one_answered}
use Rattle.daemon_rounds.proofs.answering.answer_each.Goals as goal

pub loop-steps-preserved : goal.loop-steps-preserved
loop-steps-preserved g c =
    let a = c.in_ok-answer_next.ensures.answered c.if-branch.true in
    one_answered c.args.state.now c.loop-steps.state c.answer_next.new.state c.loop-steps.invariant a.0 a.1 a.2 a.3 a.4

pub returns-clause-answered : goal.returns-clause-answered
returns-clause-answered g c =
    let last = c.in_ok-answer_next.ensures.none c.if-branch.false in
    all_answered c.args.state.now c.loop-steps.state c.answer_next.new.state c.loop-steps.invariant last.0 last.1

pub returns-in_err-answer_next-clause-spent : goal.returns-in_err-answer_next-clause-spent
returns-in_err-answer_next-clause-spent g c e =
    let why : c.answer_next.result ≡ Err NumbersSpent = search rules in
    let (is, due, beyond) = c.answer_next.ensures.spent why in
    none_left c.args.state.now c.loop-steps.state c.loop-steps.invariant is due beyond
