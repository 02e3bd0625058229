-- Items of arrays and members of objects, as they are read.
use Rattle.std.proofs.Common.{◌≡◌, ℕ, List, [], ◌∷◌, length, map, refl, sym, ap, ◌∙◌, arith, Option, Some, option_and_then}
use Rattle.std.specs.Prelude.{String}
use Rattle.std.specs.declared.alloc.Global.{Global}
use Rattle.serde_json.specs.Data.{Data}
use Rattle.serde_json.specs.Find.{get, as_array}
use Rattle.serde_json.specs.View.{items_view, members_view, view}
use Rattle.serde_json.specs.declared.value.Value.{Value}
use Rattle.change_records.specs.Rows.{all_there, list_of}
use Rattle.change_records.proofs.AllThere.{list_of-items_of, map-map}
use Rattle.batch_frames.specs.Shapes.{count_of, items_at, row_of, value_of}

there : {X : Type 0} → (item : Data → Option X) (items : List Value) → all_there (map (λ (v : Value). item (view v)) items) ≡ all_there (map item (list_of (items_view items)))
there item items = ap all_there (sym (map-map item view items)) ∙ ap (λ ds. all_there (map item ds)) (sym (list_of-items_of (map view items)))

-- the items of a member
pub items_found : {X : Type 0} → (item : Data → Option X) (key : List ℕ) (line found : Data) (items : List Value) → get key line ≡ Some found → as_array found ≡ Some (items_view items)
    → all_there (map (λ (v : Value). item (view v)) items) ≡ items_at item key line
items_found item key line found items at is =
    there item items ∙ ap (λ o. option_and_then (λ ds. all_there (map item (list_of ds))) o) (sym (ap (λ o. option_and_then as_array o) at ∙ is))

-- the values of a row
pub row_found : (row : Data) (items : List Value) → as_array row ≡ Some (items_view items) → all_there (map (λ (v : Value). value_of (view v)) items) ≡ row_of row
row_found row items is = there value_of items ∙ ap (λ o. option_and_then (λ ds. all_there (map value_of (list_of ds))) o) (sym is)

pub count_members : (members : List (String Global × Value)) → count_of (members_view members) ≡ length members
count_members [] = refl
count_members (m ∷ ms) = omega (arith, count_members ms)
