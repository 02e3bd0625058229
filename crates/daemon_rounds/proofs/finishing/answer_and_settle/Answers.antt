use Rattle.daemon_rounds.proofs.Keeping.{settles}
use Rattle.daemon_rounds.proofs.finishing.answer_and_settle.Goals as goal

pub returns-in-Ok-clause-settled : goal.returns-in-Ok-clause-settled
returns-in-Ok-clause-settled c =
    settles c.args.state.now c.answer_due.new.state c.settle.new.state c.is_state.ensures c.in_ok-answer_due.ensures.answered c.in-Ok.ensures.expired c.in-Ok.ensures.due c.in-Ok.ensures.settled
