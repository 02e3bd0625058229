use Rattle.std.proofs.Common.{◌∙◌}
use Rattle.keeper_sqlite.proofs.Commits.{nothing_then_nothing}
use Rattle.keeper_sqlite.proofs.Seals.{clean_before, made_on}
use Rattle.keeper_sqlite.proofs.database.make_all.Goals as goal

pub loop-change-preserved : goal.loop-change-preserved
loop-change-preserved g c =
    let before = c.loop-change.invariant in
    let made = c.in_ok-make.ensures in (
      made.same_reference ∙ before.0,
      nothing_then_nothing _ _ _ before.1 made.survives,
      λ clean. made_on g.S.Store c.args.changes.now c.as_slice-change-items.result.now c.loop-change.change-index c.change-item.result _ _ _ c.as_slice-change-items.ensures c.loop-change-test.true c.change-item.is (made.made clean)
          (before.2 (clean_before _ _ made.survives clean)),
    )
