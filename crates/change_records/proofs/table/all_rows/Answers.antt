use Rattle.std.proofs.Common.{Some, ap, ◌∙◌, sym}
use Rattle.serde_json.specs.View.{view}
use Rattle.serde_json.specs.declared.value.Value.{Value}
use Rattle.osq_value.specs.Catalogue.{columns_of}
use Rattle.change_records.specs.Rows.{row_of}
use Rattle.change_records.proofs.AllThere.{all_there-more, all_there-none, fault_of_all, passed_on}
use Rattle.change_records.proofs.table.all_rows.Goals as goal

pub returns-in_err-row : goal.returns-in_err-row
returns-in_err-row c =
    let row = λ (item : Value). row_of (columns_of c.args.table.0) (view item) in
    passed_on _ c.in_err-row.field-0.0 c.from_residual.result c.from_residual.ensures.1
    (fault_of_all (row c.item-item.result) _ c.in_err-row.field-0.0 c.in_err-row.ensures
    (λ none. all_there-none row c.args.items.now c.loop-item.item-index c.item-item.result c.loop-item-test.true (ap row (sym c.item-item.is) ∙ none)))

pub loop-item-preserved : goal.loop-item-preserved
loop-item-preserved c =
    all_there-more (λ (item : Value). row_of (columns_of c.args.table.0) (view item)) c.args.items.now c.loop-item.item-index c.item-item.result c.loop-item.rows _ c.loop-item-test.true c.loop-item.invariant (ap (λ (item : Value). row_of (columns_of c.args.table.0) (view item)) (sym c.item-item.is) ∙ c.in_ok-row.ensures)
    ∙ ap (λ v. Some v) (sym c.in_ok-push.ensures.ok)
