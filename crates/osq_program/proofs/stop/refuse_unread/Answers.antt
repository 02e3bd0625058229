use Rattle.std.proofs.Common.{ℕ, List, sym, ap, subst, ◌∙◌}
use Rattle.osq_outside.specs.Causes.{Rose}
use Rattle.osq_program.specs.Report.{Tells, unread_text}
use Rattle.osq_program.proofs.Toldings.{text_is}
use Rattle.osq_program.proofs.stop.refuse_unread.Goals as goal

pub returns-clause-told : goal.returns-clause-told
returns-clause-told g c = λ tells.
    subst (λ (text : List ℕ). Tells (Rose (g.O.Sink.faults c.args.sink.now) (g.O.Sink.faults c.write.new.sink)) (g.O.Sink.written c.args.sink.now) (g.O.Sink.written c.write.new.sink) text)
    (c.as_slice.ensures ∙ c.in-Ok.ensures) (c.write.ensures.told tells)

pub returns-in_default-clause-told : goal.returns-in_default-clause-told
returns-in_default-clause-told g c = λ tells. text_is _ _ _ _ _ (ap (unread_text c.args.file.now) (sym c.starve.ensures.same)) (c.starve.ensures.told tells)
