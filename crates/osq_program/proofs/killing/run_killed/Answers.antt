use Rattle.std.proofs.Common.{sym, ◌∙◌, subst}
use Rattle.osq_program.specs.Answers.{IsDoneStatus}
use Rattle.osq_program.proofs.Kills.{is_run_over}
use Rattle.osq_program.proofs.killing.run_killed.Goals as goal

pub returns-clause-run : goal.returns-clause-run
returns-clause-run c =
    is_run_over _ _ c.args.count c.args.start _ _ c.in_ok-ran.ran.status c.in_ok-status.status c.in_ok-lines.ensures c.in_ok-status.ensures.same c.in_ok-status.ensures.ended c.in_ok-ran.ensures.kept c.in_ok-ran.ensures.done

pub returns-clause-sealed : goal.returns-clause-sealed
returns-clause-sealed c = λ done. c.in_ok-ran.ensures.sealed (subst IsDoneStatus c.in_ok-status.ensures.same done)

pub returns-clause-stopped : goal.returns-clause-stopped
returns-clause-stopped c = λ failed. c.in_ok-ran.ensures.stopped (sym c.in_ok-status.ensures.same ∙ failed)
