use Rattle.std.proofs.Common.{ℕ, List, subst}
use Rattle.osq_outside.specs.Causes.{Rose}
use Rattle.osq_program.specs.Report.{Tells}
use Rattle.osq_program.proofs.run.misuse.Goals as goal

pub returns-clause-text : goal.returns-clause-text
returns-clause-text g c = λ tells.
    subst (λ (text : List ℕ). Tells (Rose (g.O.Sink.faults c.args.status.now) (g.O.Sink.faults c.write.new.sink)) (g.O.Sink.written c.args.status.now) (g.O.Sink.written c.write.new.sink) text)
    c.as_bytes.ensures.value (c.write.ensures.told tells)
