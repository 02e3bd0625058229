use Rattle.std.proofs.Common.{sym, subst}
use Rattle.std.specs.Prelude.{All, IfSome, Option}
use Rattle.std.proofs.lemmas.List.Elements.{All-push}
use Rattle.session_state.specs.Cut.{CutValue}
use Rattle.session_state.specs.CutOf.{IsCutOf}
use Rattle.state_cases.proofs.Kept.{still_all}
use Rattle.state_cases.proofs.session.Session.claim.Goals as goal

pub invariant_of-self-in-None : goal.invariant_of-self-in-None
invariant_of-self-in-None c =
    subst (All (IsCutOf c.claim_counted.new.state)) (sym c.reserve.ensures.items) (still_all (IsCutOf c.self.inside.state) (IsCutOf c.claim_counted.new.state) c.self.inside.cuts.items c.claim_counted.ensures.cuts c.self.invariant)

pub invariant_of-self-in_err-cut : goal.invariant_of-self-in_err-cut
invariant_of-self-in_err-cut c =
    subst (All (IsCutOf c.claim_counted.new.state)) (sym c.reserve.ensures.items) (still_all (IsCutOf c.self.inside.state) (IsCutOf c.claim_counted.new.state) c.self.inside.cuts.items c.claim_counted.ensures.cuts c.self.invariant)

pub invariant_of-self-in-Some : goal.invariant_of-self-in-Some
invariant_of-self-in-Some c =
    let open_still : All (IsCutOf c.claim_counted.new.state) c.reserve.new.self.items = subst (All (IsCutOf c.claim_counted.new.state)) (sym c.reserve.ensures.items) (still_all (IsCutOf c.self.inside.state) (IsCutOf c.claim_counted.new.state) c.self.inside.cuts.items c.claim_counted.ensures.cuts c.self.invariant) in
    let own : IsCutOf c.claim_counted.new.state c.in-Some.cut = subst (λ (given : Option CutValue). IfSome given (IsCutOf c.claim_counted.new.state)) c.in-Some.is c.in_ok-cut.ensures.own in
    subst (All (IsCutOf c.claim_counted.new.state)) (sym c.push_reserved.ensures.items) (All-push (IsCutOf c.claim_counted.new.state) c.reserve.new.self.items c.in-Some.cut open_still own)
