use Rattle.std.proofs.Common.{rules, ◌≡◌, ◌∙◌, Bool, List, false, length, set, ap, arith}
use Rattle.std.proofs.lemmas.List.{length-set, with_items_is}
use Rattle.session_state.specs.Inside.{kept}
use Rattle.session_state.proofs.Passed.{passed_released}
use Rattle.session_state.proofs.state.State.release.Goals as goal

pub invariant_of-self : goal.invariant_of-self
invariant_of-self c =
    let long : length c.unclaim.new.claims ≡ length c.as_mut_slice.result.now = ap (λ (claims : List Bool). length claims) c.unclaim.ensures ∙ simp length-set in
    let s = kept c.self.inside in
    let same : length (set s.claims c.place-place.result false) ≡ length s.claims = simp length-set in
    let claims = with_items_is c.self.inside.claims c.unclaim.new.claims (omega (arith, long, c.as_mut_slice.ensures.len)) ∙ c.unclaim.ensures ∙ ap (λ (claims : List Bool). set claims c.place-place.result false) c.as_mut_slice.ensures.value in
    record {
      state = record {
        image = search rules;
        position = search rules;
        sessions = search rules;
        moment = search rules;
        runs = search rules;
        batches = search rules;
        acked = search rules;
        schedule = search rules;
        claims = ap (λ (claims : List Bool). length claims) claims ∙ same ∙ c.self.invariant.state.claims;
        room = search rules;
        run_room = search rules;
        places = search rules;
        rising = search rules;
        past = search rules;
      };
      listed = search rules;
      readers = c.self.invariant.readers;
      slices = c.self.invariant.slices;
      passed = (let low = c.min-self-inside.ensures in passed_released s.counts.runs s.schedule.queries s.claims s.counts.moment c.self.inside.from c.place-place.result _ _ c.self.invariant.passed claims (omega (arith, low)) (omega (arith, low)));
    }
