use Rattle.std.proofs.Common.{◌+◌, ◌-◌, ap, arith, length, take, get_or, [], List}
use Rattle.std.proofs.lemmas.List.{length-take}
use Rattle.entry_model.specs.declared.restored.Live.{Live}
use Rattle.event_store.specs.Queues.{new_events}
use Rattle.event_store.proofs.Filling.{length_new, placed_few}
use Rattle.event_store.proofs.placing.stage_range.Goals as goal

pub next-next-requires-clause-small : goal.next-next-requires-clause-small
next-next-requires-clause-small g c table lt =
    let events = take (c.args.last + 256 - c.args.last) c.args.rest.now.items in
    let held = ap (λ (qs : List (List Live)). length (get_or qs table [])) c.in_ok-fill.ensures.ok in
    let few = placed_few c.args.staged.now.tail.held (new_events c.args.last c.args.moment events) table in
    let count = length_new c.args.last c.args.moment events in
    let long = length-take (c.args.last + 256 - c.args.last) c.args.rest.now.items in
    let counted = c.requires.counted table lt in
    let small = c.requires.small.0 in
    omega (arith, held, few, count, long, counted, small)
