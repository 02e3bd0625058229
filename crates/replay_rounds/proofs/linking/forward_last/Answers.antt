use Rattle.std.proofs.Common.{◌==◌, List, ℕ, length, ap, sym, ◌∙◌}
use Rattle.replay_rounds.proofs.Nexts.{heard_some, no_marks, none_sealed}
use Rattle.replay_rounds.proofs.linking.forward_last.Goals as goal

pub returns-then-is_empty-clause-done : goal.returns-then-is_empty-clause-done
returns-then-is_empty-clause-done g c = record {
  marks = c.in-Ok.marks;
  heard = c.in-Ok.ensures.heard;
  sealed = none_sealed g.K.Keeper.tells (g.K.Keeper.kept c.args.keeper.now) (g.K.Keeper.kept c.forward_sealed.new.keeper) c.in-Ok.marks c.args.state.now
      (no_marks c.in-Ok.marks (sym (ap (λ (ms : List ℕ). length ms == 0) c.as_slice.ensures) ∙ sym c.is_empty.ensures ∙ c.if-is_empty.true)) c.requires.sealed c.forward_sealed.ensures.kept;
}

pub returns-clause-forwards : goal.returns-clause-forwards
returns-clause-forwards g c =
    heard_some _ _ _ _ _ c.in-Ok.marks _ _ c.in-Ok.ensures.heard (sym (ap (λ (ms : List ℕ). length ms == 0) c.as_slice.ensures) ∙ sym c.is_empty.ensures ∙ c.if-is_empty.false)
