use Rattle.std.proofs.Common.{ap, ◌∙◌}
use Rattle.batch_keeper.specs.declared.indexed.Index.{Index}
use Rattle.batch_keeper.proofs.Places.{more_placed, more_acked, more_seen}
use Rattle.batch_keeper.proofs.indexed.look_at_next.Goals as goal
use Rattle.batch_keeper.proofs.indexed.look_at_next.Goals.{in-Committed+in_ok-push-in-Committed, in-Acked, in_default}

pub returns-clause-is_index : goal.returns-clause-is_index
returns-clause-is_index c =
    let entries = c.args.entries.now in
    let old = c.args.index.now in
    let new = c.match-entries-index.index in
    let entry = c.index-entries-index.result in
    elim c.match-entries-index.branch [
      | in-Committed+in_ok-push-in-Committed w ↦
          more_placed entries old c.requires.is_index entry c.requires.within c.index-entries-index.is new (ap (λ (i : Index). i.seen) w.index-is) w.in-Committed.batch w.in-Committed.is (ap (λ (i : Index). i.places.items) w.index-is ∙ w.in_ok-push-in-Committed.ensures.items) (ap (λ (i : Index). i.acked) w.index-is)
      | in-Acked w ↦
          more_acked entries old c.requires.is_index entry c.requires.within c.index-entries-index.is new (ap (λ (i : Index). i.seen) w.index-is) w.in-Acked.upto w.in-Acked.is (ap (λ (i : Index). i.places.items) w.index-is) (ap (λ (i : Index). i.acked) w.index-is)
      | in_default w ↦
          more_seen entries old c.requires.is_index entry c.requires.within c.index-entries-index.is new (ap (λ (i : Index). i.seen) w.index-is) w.in_default.not-Committed w.in_default.not-Acked (ap (λ (i : Index). i.places.items) w.index-is) (ap (λ (i : Index). i.acked) w.index-is)
    ]
