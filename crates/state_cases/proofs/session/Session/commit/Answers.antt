use Rattle.session_state.specs.CutOf.{IsCutOf}
use Rattle.state_cases.proofs.Cuts.{committed_known}
use Rattle.state_cases.proofs.Kept.{still_all}
use Rattle.state_cases.proofs.session.Session.commit.Goals as goal

pub invariant_of-self : goal.invariant_of-self
invariant_of-self c =
    let old = c.self.inside.state in
    let new = c.commit.new.self in
    still_all (IsCutOf old) (IsCutOf new) c.self.inside.cuts.items (committed_known old new _ _ c.commit.result c.commit.ensures.committed c.commit.ensures.err) c.self.invariant
