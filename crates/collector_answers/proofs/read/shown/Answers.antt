use Rattle.collector_answers.proofs.Fronts.{conflict_ends, plain_shown}
use Rattle.collector_answers.proofs.read.shown.Goals as goal

pub returns-in-Some : goal.returns-in-Some
returns-in-Some c = plain_shown c.args.line.now c.in-Some.answer (rw c.in-Some.is at c.in_ok-answer.ensures)

pub returns-in-None : goal.returns-in-None
returns-in-None c = conflict_ends c.args.line.now c.conflict.result (rw c.in-None.is at c.in_ok-answer.ensures) c.conflict.ensures
