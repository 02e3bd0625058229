use Rattle.std.proofs.Common.{ap, ◌∙◌, map, List, ◌++◌}
use Rattle.entry_model.specs.declared.entry.Entry.{Entry}
use Rattle.entry_model.specs.declared.entry.Entry.TheVariants.{Acked}
use Rattle.daemon_rounds.proofs.Keeping.{may_seal}
use Rattle.forward_rounds.proofs.Acks.{goes_on_adds}
use Rattle.replay_rounds.proofs.Nexts.{acked_by, seals}
use Rattle.replay_rounds.proofs.linking.seal_marks.Goals as goal

pub seal_acks-requires : goal.seal_acks-requires
seal_acks-requires g c = record {
  legal = may_seal g.K.Keeper.tells (g.K.Keeper.kept c.args.keeper.now) c.acknowledge_each.new.state
      (goes_on_adds g.K.Keeper.tells (g.K.Keeper.kept c.args.keeper.now) c.args.state.now c.acknowledge_each.new.state (map Acked c.as_slice.result.now) c.requires.goes_on c.in-Ok.ensures.added);
}

pub returns-in-Ok-clause-done : goal.returns-in-Ok-clause-done
returns-in-Ok-clause-done g c =
    seals g.K.Keeper.tells (g.K.Keeper.kept c.args.keeper.now) (g.K.Keeper.kept c.seal_acks.new.keeper) c.args.marks.now c.args.state.now c.acknowledge_each.new.state c.seal_acks.new.state c.seal_acks.result
    (acked_by c.args.state.now c.acknowledge_each.new.state c.as_slice.result.now c.args.marks.now c.as_slice.ensures (record { adds = c.in-Ok.ensures.added; due = c.in-Ok.ensures.due; owed = c.in-Ok.ensures.owed }))
    (c.in-Ok.ensures.added.tail ∙ ap (λ (es : List Entry). es ++ map Acked c.as_slice.result.now) c.requires.sealed ∙ ap (map Acked) c.as_slice.ensures)
    c.seal_acks.ensures.taken c.seal_acks.ensures.kept
