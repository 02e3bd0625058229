use Rattle.std.proofs.Common.{Some, ap, ◌∙◌, sym}
use Rattle.serde_json.specs.Find.{get}
use Rattle.serde_json.specs.View.{view}
use Rattle.osq_value.specs.declared.catalogue.ColumnDesc.{ColumnDesc}
use Rattle.change_records.specs.Rows.{cell_of}
use Rattle.change_records.proofs.AllThere.{all_there-more, all_there-none, fault_of_all, passed_on}
use Rattle.change_records.proofs.table.cells.Goals as goal

pub returns-in_err-cell : goal.returns-in_err-cell
returns-in_err-cell c =
    passed_on _ c.in_err-cell.field-0.0 c.from_residual.result c.from_residual.ensures.1
    (fault_of_all _ _ c.in_err-cell.field-0.0 c.in_err-cell.ensures
    (all_there-none (λ (desc : ColumnDesc). cell_of desc.affinity (get desc.name.now (view c.args.item.now))) c.args.columns.now c.loop-column.column-index _ c.loop-column-test.true))

pub loop-column-preserved : goal.loop-column-preserved
loop-column-preserved c =
    all_there-more (λ (desc : ColumnDesc). cell_of desc.affinity (get desc.name.now (view c.args.item.now))) c.args.columns.now c.loop-column.column-index _ c.loop-column.cells _ c.loop-column-test.true c.loop-column.invariant c.in_ok-cell.ensures
    ∙ ap (λ v. Some v) (sym c.in_ok-push.ensures.ok)
