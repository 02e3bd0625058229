use Rattle.std.proofs.Common.{Some, ap, ◌∙◌, sym}
use Rattle.serde_json.specs.View.{view}
use Rattle.serde_json.specs.declared.value.Value.{Value}
use Rattle.change_records.proofs.AllThere.{all_there-more, all_there-none, fault_of_all, passed_on}
use Rattle.serde_json.specs.Find.{as_str}
use Rattle.batch_frames.proofs.shape.all_names.Goals as goal

pub returns-in_err-name : goal.returns-in_err-name
returns-in_err-name c =
    let of_item = λ (item : Value). as_str (view item) in
    passed_on _ c.in_err-name.field-0.0 c.from_residual.result c.from_residual.ensures.1
    (fault_of_all (of_item c.item-item.result) _ c.in_err-name.field-0.0 c.in_err-name.ensures
    (λ none. all_there-none of_item c.args.items.now c.loop-item.item-index c.item-item.result c.loop-item-test.true (ap of_item (sym c.item-item.is) ∙ none)))

pub loop-item-preserved : goal.loop-item-preserved
loop-item-preserved c =
    all_there-more (λ (item : Value). as_str (view item)) c.args.items.now c.loop-item.item-index c.item-item.result c.loop-item.names _ c.loop-item-test.true c.loop-item.invariant (ap (λ (item : Value). as_str (view item)) (sym c.item-item.is) ∙ c.in_ok-name.ensures)
    ∙ ap (λ v. Some v) (sym c.in_ok-push.ensures.ok)
