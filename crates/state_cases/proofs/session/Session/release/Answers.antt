use Rattle.session_state.specs.CutOf.{IsCutOf}
use Rattle.state_cases.proofs.Kept.{still_all}
use Rattle.state_cases.proofs.session.Session.release.Goals as goal

pub invariant_of-self : goal.invariant_of-self
invariant_of-self c =
    let old = c.self.inside.state in
    let new = c.release.new.self in
    still_all (IsCutOf old) (IsCutOf new) c.self.inside.cuts.items c.release.ensures.cuts c.self.invariant
