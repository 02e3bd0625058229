use Rattle.osq_program.proofs.Toldings.{spent_caused, spent_end, spent_not_done, spent_not_usage, wanting_end}
use Rattle.osq_program.proofs.ending.finish_spent.Goals as goal

pub returns-clause-spent : goal.returns-clause-spent
returns-clause-spent g c = λ spent tells. spent_end _ _ _ c.stop.result c.args.kept c.args.faults (c.stop.ensures.told tells) spent

pub returns-clause-done : goal.returns-clause-done
returns-clause-done g c = spent_not_done c.stop.result c.stop.ensures.same

pub returns-clause-usage : goal.returns-clause-usage
returns-clause-usage g c = spent_not_usage c.stop.result c.stop.ensures.same

pub returns-clause-cause : goal.returns-clause-cause
returns-clause-cause g c = spent_caused c.stop.result c.stop.ensures.same

pub returns-clause-told : goal.returns-clause-told
returns-clause-told g c = λ refusal tells. wanting_end _ _ _ c.stop.result c.args.kept c.args.faults (c.stop.ensures.told tells) refusal
