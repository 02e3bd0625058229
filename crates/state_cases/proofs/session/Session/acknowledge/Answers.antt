use Rattle.session_state.specs.CutOf.{IsCutOf}
use Rattle.state_cases.proofs.Cuts.{acked_known}
use Rattle.state_cases.proofs.Kept.{still_all}
use Rattle.state_cases.proofs.session.Session.acknowledge.Goals as goal

pub invariant_of-self : goal.invariant_of-self
invariant_of-self c =
    let old = c.self.inside.state in
    let new = c.acknowledge.new.self in
    still_all (IsCutOf old) (IsCutOf new) c.self.inside.cuts.items (acked_known old new _ c.acknowledge.result c.acknowledge.ensures.added c.acknowledge.ensures.err) c.self.invariant
