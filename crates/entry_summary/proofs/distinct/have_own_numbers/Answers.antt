use Rattle.std.specs.Prelude.{◌==◌}
use Rattle.entry_model.specs.declared.restored.Run.{Run}
use Rattle.entry_summary.proofs.Walks.{apart}
use Rattle.entry_summary.proofs.distinct.have_own_numbers.Goals as goal

pub loop-at-preserved : goal.loop-at-preserved
loop-at-preserved c =
    apart (λ (s t : Run). s.number == t.number) c.args.runs.now c.loop-at.at c.index-runs-at.result c.loop-at-test.true c.loop-at.invariant c.if-has_number.ensures
