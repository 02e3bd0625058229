use Rattle.std.proofs.Common.{◌∙◌, ap}
use Rattle.osq_outside.specs.declared.fails.Failures.{Failures}
use Rattle.osq_program.proofs.SelfTests.{view_none}
use Rattle.osq_program.proofs.self_session.link_of.Goals as goal

pub returns : goal.returns
returns c = view_none _ _ _ c.new-3.ensures.sent (c.new-3.ensures.waiting ∙ c.new.ensures) (ap (λ (f : Failures). f.faults) c.new-3.ensures.failures)
