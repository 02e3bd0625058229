use Rattle.std.proofs.Common.{◌≡◌, ◌+◌, ◌-◌, ◌∷◌, ◌∙◌, ap, sym, subst, arith, length, take}
use Rattle.std.proofs.lemmas.List.Elements.{All-rest}
use Rattle.entry_model.specs.Legal.{IsEvent}
use Rattle.event_store.specs.Queues.{new_events, placed, IsLonger}
use Rattle.event_store.proofs.Filling.{taken_events, taken_rest, longer_pushed}
use Rattle.event_store.proofs.placing.fill.Goals as goal

pub loop-number-preserved : goal.loop-number-preserved
loop-number-preserved g c =
    let l = c.loop-number in
    let is : l.rest.items ≡ c.in-Some.event ∷ c.pop_front.new.self.items = c.in-Some.ensures.items in
    let below = c.loop-number-test.true in
    let queues = c.in_ok-push_event.ensures.ok in
    let steps = c.in_ok-push_event.ensures.steps in
    let count = ap length is in
    let enough = l.invariant.enough in
    let so_far = l.invariant.steps in
    record {
      queues = ap (λ qs. placed qs (new_events (l.number + 1) c.args.moment (take (c.args.until - (l.number + 1)) c.pop_front.new.self.items))) queues ∙ taken_events l.queues l.number c.args.until c.args.moment c.in-Some.event l.rest.items c.pop_front.new.self.items below is ∙ l.invariant.queues;
      rest = taken_rest l.queues l.number c.args.until c.args.moment c.in-Some.event l.rest.items c.pop_front.new.self.items below is ∙ l.invariant.rest;
      longer = subst (IsLonger c.args.queues.now) (sym queues) (longer_pushed c.args.queues.now l.queues _ l.invariant.longer);
      events = All-rest IsEvent c.in-Some.event c.pop_front.new.self.items l.rest.items is l.invariant.events;
      number = omega (arith, below);
      enough = omega (arith, below, count, enough);
      steps = omega (arith, below, steps, so_far);
    }
