use Rattle.std.proofs.Common.{◌≡◌, ◌+◌, ◌-◌, ◌/◌, ◌<◌, ◌≤◌, sym, subst, arith, length, drop}
use Rattle.event_store.specs.Queues.{above}
use Rattle.entry_model.specs.declared.restored.Live.{Live}
use Rattle.event_store.specs.Segments.{live_in}
use Rattle.event_store.proofs.Found.{low_upto, high_from, both_halves}
use Rattle.event_store.proofs.segments.Segments.upto.Goals as goal

pub loop-low-preserved-then-event-number : goal.loop-low-preserved-then-event-number
loop-low-preserved-then-event-number c =
    let xs = live_in c.args.self.now c.args.table in
    let middle = c.loop-low.low + (c.loop-low.high - c.loop-low.low) / 2 in
    let within : middle < length xs = omega (arith, c.loop-low-test.true, c.loop-low.invariant.within) in
    let beyond = c.if-event-number.true in
    record {
      order = omega arith;
      within = omega (arith, within);
      below = c.loop-low.invariant.below;
      beyond = high_from c.args.number 0 xs middle c.event.result.now c.requires.rising within (subst (λ (e : Live). c.args.number < e.number) c.event.ensures beyond);
    }

pub loop-low-preserved : goal.loop-low-preserved
loop-low-preserved c =
    let xs = live_in c.args.self.now c.args.table in
    let middle = c.loop-low.low + (c.loop-low.high - c.loop-low.low) / 2 in
    let within : middle < length xs = omega (arith, c.loop-low-test.true, c.loop-low.invariant.within) in
    let upto : c.event.result.now.number ≤ c.args.number = (let a = c.if-event-number.false in omega (arith, a)) in
    record {
      order = omega (arith, c.loop-low-test.true);
      within = c.loop-low.invariant.within;
      below = low_upto c.args.number 0 xs middle c.event.result.now c.requires.rising within (subst (λ (e : Live). e.number ≤ c.args.number) c.event.ensures upto);
      beyond = c.loop-low.invariant.beyond;
    }

pub returns-clause-above : goal.returns-clause-above
returns-clause-above c =
    let xs = live_in c.args.self.now c.args.table in
    let same : c.loop-low.low ≡ c.loop-low.high = omega (arith, c.loop-low-test.false, c.loop-low.invariant.order) in
    both_halves c.args.number c.loop-low.low xs c.loop-low.invariant.below (subst (λ n. above c.args.number (drop n xs) ≡ drop n xs) (sym same) c.loop-low.invariant.beyond)
