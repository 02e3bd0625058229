use Rattle.session_state.specs.CutOf.{IsCutOf}
use Rattle.state_cases.proofs.Cuts.{added_known}
use Rattle.state_cases.proofs.Kept.{still_all}
use Rattle.state_cases.proofs.session.Session.tick.Goals as goal

pub invariant_of-self : goal.invariant_of-self
invariant_of-self c =
    let old = c.self.inside.state in
    let new = c.tick.new.self in
    still_all (IsCutOf old) (IsCutOf new) c.self.inside.cuts.items (added_known old new _ c.tick.result c.tick.ensures.ticked c.tick.ensures.err) c.self.invariant
