use Rattle.std.proofs.Common.{◌≡◌, List, Some, codes, map, sym, ap, ◌∙◌, subst, option_map}
use Rattle.osq_value.specs.Catalogue.{columns_of}
use Rattle.serde_json.specs.declared.value.Value.{Value}
use Rattle.serde_json.specs.Find.{get, as_array}
use Rattle.serde_json.specs.View.{items_view, view}
use Rattle.change_records.specs.Reads.{Reads}
use Rattle.change_records.specs.Rows.{all_there, row_of}
use Rattle.change_records.proofs.AllThere.{rows_found}
use Rattle.change_records.proofs.table.rows.Goals as goal

pub returns : goal.returns
returns c =
    let array = c.in_ok-ok_or.field-0.now in
    let items = c.in_ok-items.items.now.items in
    let at : get (codes "rows") (view c.args.line.now) ≡ Some (view array) = sym c.get.ensures ∙ ap (λ o. option_map (λ v. view v.now) o) c.in_ok-ok_or.ensures.ok_part in
    let is : as_array (view array) ≡ Some (items_view items) = sym c.as_array.ensures ∙ ap (λ o. option_map (λ v. items_view v.now.items) o) c.in_ok-items.ensures.ok_part in
    let columns = columns_of c.args.table.0 in
    let same : all_there (map (λ (item : Value). row_of columns (view item)) c.as_slice.result.now) ≡ all_there (map (λ (item : Value). row_of columns (view item)) items) =
    ap (λ (vs : List Value). all_there (map (λ (item : Value). row_of columns (view item)) vs)) c.as_slice.ensures.value in
    subst (λ found. Reads found c.all_rows.result) (same ∙ rows_found columns (view c.args.line.now) (view array) items at is) c.all_rows.ensures
