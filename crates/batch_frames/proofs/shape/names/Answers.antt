use Rattle.std.proofs.Common.{◌≡◌, List, Some, codes, map, sym, ap, ◌∙◌, subst, option_map}
use Rattle.serde_json.specs.Find.{get, as_array, as_str}
use Rattle.serde_json.specs.declared.value.Value.{Value}
use Rattle.serde_json.specs.View.{items_view, view}
use Rattle.change_records.specs.Reads.{Reads}
use Rattle.change_records.specs.Rows.{all_there}
use Rattle.batch_frames.proofs.Members.{items_found}
use Rattle.batch_frames.proofs.shape.names.Goals as goal

pub returns : goal.returns
returns c =
    let array = c.in_ok-ok_or.field-0.now in
    let items = c.in_ok-items.items.now.items in
    let at : get (codes "names") (view c.args.line.now) ≡ Some (view array) = sym c.get.ensures ∙ ap (λ o. option_map (λ v. view v.now) o) c.in_ok-ok_or.ensures.ok_part in
    let is : as_array (view array) ≡ Some (items_view items) = sym c.as_array.ensures ∙ ap (λ o. option_map (λ v. items_view v.now.items) o) c.in_ok-items.ensures.ok_part in
    let same : all_there (map (λ (item : Value). as_str (view item)) c.as_slice.result.now) ≡ all_there (map (λ (item : Value). as_str (view item)) items) =
    ap (λ (vs : List Value). all_there (map (λ (item : Value). as_str (view item)) vs)) c.as_slice.ensures.value in
    subst (λ found. Reads found c.all_names.result) (same ∙ items_found as_str (codes "names") (view c.args.line.now) (view array) items at is) c.all_names.ensures
