use Rattle.std.proofs.Common.{List, ℕ, ◌<◌, subst, map}
use Rattle.std.specs.List.{list_all}
use Rattle.std.specs.Option.{option_copied}
use Rattle.osq_value.specs.declared.value.Value.{Value}
use Rattle.virtual_tables.specs.Tests.{passes}
use Rattle.virtual_tables.proofs.Turning.{row-then}
use Rattle.virtual_tables.proofs.rows.passing.Goals as goal

pub loop-at-preserved : goal.loop-at-preserved
loop-at-preserved g c =
    row-then (λ (row : List Value). list_all (passes row) c.args.tests.now) (g.V.Tables.rows_of c.args.view.now c.args.table.0) c.loop-at.at (option_copied c.row.result)
    (map (λ row. row.now) c.loop-at.rows) (map (λ row. row.now) c.push_passing.new.rows) (subst (λ (n : ℕ). c.loop-at.at < n) c.count-at-end.ensures c.loop-at-test.true) c.row.ensures c.loop-at.invariant c.in_ok-push_passing.ensures
