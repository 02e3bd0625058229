use Rattle.turn_lock.specs.Words.{number, seen, IsAtRest, IsSame}
use Rattle.shared_store.specs.Words.{start_of}
use Rattle.thread_jobs.specs.Working.{AnswersOf}
use Rattle.thread_jobs.proofs.working.answer_each.Given as goal

abbrev pub invariant-loop : goal.invariant-loop
invariant-loop g l = IsSame l.initial.seat l.seat × IsAtRest l.seat × AnswersOf (start_of l.store) (number l.initial.seat) (seen l.initial.seat) (seen l.seat)
