use Rattle.std.proofs.Common.{◌≡◌, ◌+◌, ◌-◌, ◌/◌, ◌∙◌, ap, arith, length, take}
use Rattle.event_store.specs.Segments.{reach_of, joined, before_all}
use Rattle.event_store.proofs.Chains.{reach_at, joined_part}
use Rattle.event_store.proofs.places.part_of.Goals as goal

pub reach-requires-clause-small : goal.reach-requires-clause-small
reach-requires-clause-small c =
    let xs = c.args.parts.now in
    let t = c.args.table in
    let middle = c.loop-low.low + (c.loop-low.high - c.loop-low.low) / 2 in
    let is : reach_of t c.segment.result.now ≡ before_all t xs + length (joined t (take (middle + 1) xs)) = ap (reach_of t) (c.segment.ensures ∙ c.index-parts-middle.is) ∙ reach_at t (before_all t xs) xs middle c.index-parts-middle.result c.requires.counted (omega (arith, c.loop-low-test.true, c.loop-low.invariant.within)) in
    let all = joined_part t (middle + 1) xs in
    let small = c.requires.small in
    omega (arith, is, all, small)

pub loop-low-preserved-then-reach-place : goal.loop-low-preserved-then-reach-place
loop-low-preserved-then-reach-place c =
    let xs = c.args.parts.now in
    let t = c.args.table in
    let middle = c.loop-low.low + (c.loop-low.high - c.loop-low.low) / 2 in
    let is : reach_of t c.segment.result.now ≡ before_all t xs + length (joined t (take (middle + 1) xs)) = ap (reach_of t) (c.segment.ensures ∙ c.index-parts-middle.is) ∙ reach_at t (before_all t xs) xs middle c.index-parts-middle.result c.requires.counted (omega (arith, c.loop-low-test.true, c.loop-low.invariant.within)) in
    let beyond = c.if-reach-place.true in
    let reached = c.reach.ensures in
    record {
      order = omega arith;
      within = omega (arith, c.loop-low-test.true, c.loop-low.invariant.within);
      behind = c.loop-low.invariant.behind;
      ahead = λ less. omega (arith, is, reached, beyond);
    }

pub loop-low-preserved : goal.loop-low-preserved
loop-low-preserved c =
    let xs = c.args.parts.now in
    let t = c.args.table in
    let middle = c.loop-low.low + (c.loop-low.high - c.loop-low.low) / 2 in
    let is : reach_of t c.segment.result.now ≡ before_all t xs + length (joined t (take (middle + 1) xs)) = ap (reach_of t) (c.segment.ensures ∙ c.index-parts-middle.is) ∙ reach_at t (before_all t xs) xs middle c.index-parts-middle.result c.requires.counted (omega (arith, c.loop-low-test.true, c.loop-low.invariant.within)) in
    let upto = c.if-reach-place.false in
    let reached = c.reach.ensures in
    record {
      order = omega (arith, c.loop-low-test.true);
      within = c.loop-low.invariant.within;
      behind = omega (arith, is, reached, upto);
      ahead = c.loop-low.invariant.ahead;
    }
