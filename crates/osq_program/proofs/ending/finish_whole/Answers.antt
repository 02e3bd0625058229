use Rattle.osq_program.proofs.Toldings.{starved}
use Rattle.osq_program.proofs.ending.finish_whole.Goals as goal

pub returns-in_default-clause-told : goal.returns-in_default-clause-told
returns-in_default-clause-told g c = λ refusal tells. starved _ _ _ c.starve.result c.starve.ensures.same (c.starve.ensures.told tells)
