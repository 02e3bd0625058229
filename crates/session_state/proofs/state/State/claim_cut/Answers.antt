use Rattle.std.proofs.Common.{◌≡◌, ◌<◌, true, length, set, Some, sym, subst, ◌∙◌}
use Rattle.std.specs.Prelude.{option_map, slice_get}
use Rattle.std.proofs.lemmas.List.{length-set}
use Rattle.session_state.specs.Cutting.{cut_of, next_place}
use Rattle.session_state.specs.Inside.{kept}
use Rattle.session_state.specs.Kept.{Kept}
use Rattle.session_state.proofs.Cutting.{not_none, given_stands, given_own_of}
use Rattle.session_state.proofs.Passed.{passed_next}
use Rattle.session_state.proofs.state.State.claim_cut.Goals as goal

pub returns-in_default-cut_at-clause-none : goal.returns-in_default-cut_at-clause-none
returns-in_default-cut_at-clause-none g c = (
  λ e. absurd (cc),
  λ none. absurd (let k = not_none c.args.self.now c.is_state.ensures c.in-Some.place c.in-Some.ensures.within (sym c.in-Some.ensures.place) none in cc),
)

pub returns-clause-none : goal.returns-clause-none
returns-clause-none g c = (
  λ e. absurd (cc),
  λ none. absurd (let k = not_none c.args.self.now c.is_state.ensures c.in-Some.place c.in-Some.ensures.within (sym c.in-Some.ensures.place) none in cc),
)

pub returns-clause-stands : goal.returns-clause-stands
returns-clause-stands g c =
    given_stands c.args.self.now c.is_state.ensures c.in-Some.place c.in-Some.ensures.within (sym c.in-Some.ensures.place) c.in-Ok.cut (subst (λ (s : Kept). Some c.in-Ok.cut ≡ option_map (cut_of s c.in-Some.place) (slice_get s.schedule.queries c.in-Some.place)) c.renew_listed.ensures c.in-Ok.ensures.cut)

pub returns-clause-own : goal.returns-clause-own
returns-clause-own g c =
    given_own_of c.args.self.now c.is_state.ensures c.in-Some.place c.in-Some.ensures.within (sym c.in-Some.ensures.place) c.in-Ok.cut (subst (λ (s : Kept). Some c.in-Ok.cut ≡ option_map (cut_of s c.in-Some.place) (slice_get s.schedule.queries c.in-Some.place)) c.renew_listed.ensures c.in-Ok.ensures.cut) (kept c.self.inside) (c.self.view_is ∙ c.cut_at.ensures.same ∙ c.renew_listed.ensures) _

pub returns-then-is_err-clause-none : goal.returns-then-is_err-clause-none
returns-then-is_err-clause-none g c = (
  λ e. absurd (cc),
  λ none. absurd (let k = not_none c.args.self.now c.is_state.ensures c.in-Some.place c.in-Some.ensures.within (sym c.in-Some.ensures.place) none in cc),
)

pub invariant_of-self : goal.invariant_of-self
invariant_of-self g c =
    let s = kept c.self.inside in
    let is = c.self.invariant.state in
    let same = c.self.view_is ∙ c.cut_at.ensures.same ∙ c.renew_listed.ensures in
    let place = c.in-Some.place in
    let long : length (set s.claims place true) ≡ length s.claims = simp length-set in
    record {
      state = record {
        image = is.image;
        position = is.position;
        sessions = is.sessions;
        moment = is.moment;
        runs = is.runs;
        batches = is.batches;
        acked = is.acked;
        schedule = is.schedule;
        claims = long ∙ is.claims;
        room = is.room;
        run_room = is.run_room;
        places = is.places;
        rising = is.rising;
        past = is.past;
      };
      listed = c.self.invariant.listed;
      readers = c.self.invariant.readers;
      slices = c.self.invariant.slices;
      passed = passed_next s is place (subst (λ (t : Kept). place < length t.schedule.queries) (sym same) c.in-Some.ensures.within) (subst (λ (t : Kept). next_place t ≡ Some place) (sym same) (sym c.in-Some.ensures.place));
    }
