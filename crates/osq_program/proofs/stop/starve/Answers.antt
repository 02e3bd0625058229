use Rattle.std.proofs.Common.{ℕ, List, subst}
use Rattle.osq_outside.specs.Causes.{Rose}
use Rattle.osq_program.specs.Report.{Tells}
use Rattle.osq_program.proofs.stop.starve.Goals as goal

pub returns-clause-told : goal.returns-clause-told
returns-clause-told g c = λ tells.
    subst (λ (text : List ℕ). Tells (Rose (g.O.Sink.faults c.args.sink.now) (g.O.Sink.faults c.write.new.sink)) (g.O.Sink.written c.args.sink.now) (g.O.Sink.written c.write.new.sink) text)
    c.as_bytes.ensures.value (c.write.ensures.told tells)
