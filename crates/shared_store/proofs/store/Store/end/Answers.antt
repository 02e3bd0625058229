use Rattle.std.proofs.Common.{◌++◌, ◌∙◌}
use Rattle.turn_lock.specs.Turns.{stamp}
use Rattle.turn_lock.specs.Words.{number, seen}
use Rattle.shared_store.specs.Notes.{grown}
use Rattle.shared_store.proofs.store.Store.end.Goals as goal

pub returns-clause-seen : goal.returns-clause-seen
returns-clause-seen c =
    c.pass.ensures.seen ∙ (λ i. seen c.args.seat.now ++ stamp (number c.args.seat.now) (grown (c.of.ensures i).before.value.tail (c.of.ensures i).after.value.tail)) ∙ (λ i. seen c.args.seat.now ++ stamp (number c.args.seat.now) (grown c.args.before.value.tail (c.of-after.ensures i).tail))
