use Rattle.std.specs.Prelude.{◌==◌}
use Rattle.entry_model.specs.declared.restored.SetTable.{SetTable}
use Rattle.entry_summary.proofs.Walks.{apart}
use Rattle.entry_summary.proofs.distinct.have_own_tables.Goals as goal

pub loop-at-preserved : goal.loop-at-preserved
loop-at-preserved c =
    apart (λ (s t : SetTable). s.table.0 == t.table.0) c.args.tables.now c.loop-at.at c.index-tables-at.result c.loop-at-test.true c.loop-at.invariant c.if-has_table.ensures
