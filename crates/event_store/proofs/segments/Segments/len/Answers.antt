use Rattle.std.proofs.Common.{◌-◌, ◌∙◌, arith, ap}
use Rattle.std.specs.Prelude.{slice_index}
use Rattle.event_store.proofs.Found.{reach_small, first_reach, live_length}
use Rattle.event_store.proofs.segments.Segments.len.Goals as goal

pub reach-requires-clause-small : goal.reach-requires-clause-small
reach-requires-clause-small c =
    let a = reach_small c.args.self.now c.requires.sound c.args.table c.requires.table in
    let b = c.requires.sound.last in
    omega (arith, a, b)

pub overflow_sub-result : goal.overflow_sub-result
overflow_sub-result c =
    let a = first_reach c.args.self.now c.requires.sound c.args.table c.requires.table in
    let b = c.reach.ensures in
    omega (arith, a, b)

pub returns : goal.returns
returns c =
    ap (λ n. n - slice_index c.args.self.now.first c.args.table) c.reach.ensures ∙ live_length c.args.self.now c.requires.sound c.args.table c.requires.table
