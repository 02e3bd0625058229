use Rattle.osq_program.proofs.Ended.{written_or_front}
use Rattle.osq_program.proofs.stop.write.Goals as goal

pub returns-clause-told : goal.returns-clause-told
returns-clause-told g c = λ tells. written_or_front _ _ _ _ _ c.write_all-written.result (c.write_all-written.ensures.bytes tells) c.write_all-written.ensures.cause
