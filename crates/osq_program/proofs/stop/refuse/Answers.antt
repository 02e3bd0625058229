use Rattle.std.proofs.Common.{◌∙◌}
use Rattle.osq_program.proofs.Toldings.{text_is, with_fields}
use Rattle.osq_program.proofs.stop.refuse.Goals as goal

pub returns-in_default-clause-same : goal.returns-in_default-clause-same
returns-in_default-clause-same g c = with_fields _ _ (c.plain_line.ensures.fields c.in_default.is) c.tell_fields.ensures.same

pub returns-clause-told : goal.returns-clause-told
returns-clause-told g c = λ tells. text_is _ _ _ _ _ (c.as_bytes.ensures.value ∙ c.in-Some.ensures.line) (c.write.ensures.told tells)
