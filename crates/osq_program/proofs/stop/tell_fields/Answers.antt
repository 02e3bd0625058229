use Rattle.std.proofs.Common.{◌∙◌}
use Rattle.osq_program.proofs.Toldings.{line_is, text_is}
use Rattle.osq_program.proofs.stop.tell_fields.Goals as goal

pub returns-in_default-clause-told : goal.returns-in_default-clause-told
returns-in_default-clause-told g c = λ tells. line_is _ _ _ _ c.starve.result c.starve.ensures.same (c.starve.ensures.told tells)

pub returns-clause-told : goal.returns-clause-told
returns-clause-told g c = λ tells. text_is _ _ _ _ _ (c.as_slice.ensures ∙ c.in-Ok.ensures) (c.write.ensures.told tells)
