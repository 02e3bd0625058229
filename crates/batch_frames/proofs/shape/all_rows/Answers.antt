use Rattle.std.proofs.Common.{Some, ap, ◌∙◌, sym}
use Rattle.serde_json.specs.View.{view}
use Rattle.serde_json.specs.declared.value.Value.{Value}
use Rattle.change_records.proofs.AllThere.{all_there-more, all_there-none, fault_of_all, passed_on}
use Rattle.batch_frames.specs.Shapes.{row_of}
use Rattle.batch_frames.proofs.shape.all_rows.Goals as goal

pub returns-in_err-row : goal.returns-in_err-row
returns-in_err-row c =
    let of_item = λ (item : Value). row_of (view item) in
    passed_on _ c.in_err-row.field-0.0 c.from_residual.result c.from_residual.ensures.1
    (fault_of_all (of_item c.item-item.result) _ c.in_err-row.field-0.0 c.in_err-row.ensures
    (λ none. all_there-none of_item c.args.items.now c.loop-item.item-index c.item-item.result c.loop-item-test.true (ap of_item (sym c.item-item.is) ∙ none)))

pub loop-item-preserved : goal.loop-item-preserved
loop-item-preserved c =
    all_there-more (λ (item : Value). row_of (view item)) c.args.items.now c.loop-item.item-index c.item-item.result c.loop-item.rows _ c.loop-item-test.true c.loop-item.invariant (ap (λ (item : Value). row_of (view item)) (sym c.item-item.is) ∙ c.in_ok-row.ensures)
    ∙ ap (λ v. Some v) (sym c.in_ok-push.ensures.ok)
