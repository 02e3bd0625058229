use Rattle.session_state.specs.Kept.{due_count}
use Rattle.daemon_rounds.proofs.AllAnswered.{AreAnswered}
use Rattle.daemon_rounds.proofs.answering.answer_each.Given as goal

abbrev pub invariant-loop-steps : goal.invariant-loop-steps
invariant-loop-steps g l = AreAnswered l.initial.state l.state

abbrev pub decreases-loop-steps : goal.decreases-loop-steps
decreases-loop-steps g l = due_count l.state
