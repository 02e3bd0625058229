use Rattle.std.proofs.Common.{◌∙◌}
use Rattle.osq_program.proofs.Toldings.{starved_end, whole_end}
use Rattle.osq_program.proofs.stop.stop_loaded.Goals as goal

pub returns-in_default-clause-told : goal.returns-in_default-clause-told
returns-in_default-clause-told g c = λ tells. starved_end _ _ _ _ c.starve.result c.args.kept c.args.faults c.starve.ensures.same (c.starve.ensures.told tells)

pub returns-clause-told : goal.returns-clause-told
returns-clause-told g c = λ tells. whole_end _ _ _ _ c.args.status c.args.kept c.args.faults (c.as_slice.ensures ∙ c.in-Ok.ensures) (c.write.ensures.told tells)
