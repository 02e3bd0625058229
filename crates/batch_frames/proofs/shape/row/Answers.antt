use Rattle.std.proofs.Common.{◌≡◌, List, Some, map, sym, ap, ◌∙◌, subst, option_map}
use Rattle.serde_json.specs.Find.{as_array}
use Rattle.serde_json.specs.declared.value.Value.{Value}
use Rattle.serde_json.specs.View.{items_view, view}
use Rattle.change_records.specs.Reads.{Reads}
use Rattle.change_records.specs.Rows.{all_there}
use Rattle.batch_frames.specs.Shapes.{value_of}
use Rattle.batch_frames.proofs.Members.{row_found}
use Rattle.batch_frames.proofs.shape.row.Goals as goal

pub returns : goal.returns
returns c =
    let items = c.in_ok-items.items.now.items in
    let is : as_array (view c.args.item.now) ≡ Some (items_view items) = sym c.as_array.ensures ∙ ap (λ o. option_map (λ v. items_view v.now.items) o) c.in_ok-items.ensures.ok_part in
    let same : all_there (map (λ (item : Value). value_of (view item)) c.as_slice.result.now) ≡ all_there (map (λ (item : Value). value_of (view item)) items) =
    ap (λ (vs : List Value). all_there (map (λ (item : Value). value_of (view item)) vs)) c.as_slice.ensures.value in
    subst (λ found. Reads found c.all_values.result) (same ∙ row_found (view c.args.item.now) items is) c.all_values.ensures
