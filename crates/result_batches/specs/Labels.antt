-- Rows by what stands before each of their values.
use Rattle.std.specs.Prelude.{ℕ, Bool, true, false, if◌then◌else◌, List, [], ◌∷◌, ◌++◌, map, flat_map, bytes_eq}
use Rattle.std.specs.List.{list_any}
use Rattle.osq_value.specs.declared.value.Value.{Value}
use Rattle.result_batches.specs.Json.{escaped, quoted}
use Rattle.result_batches.specs.Lines.{value_text}

-- the comma behind the column before, a name, and the quote that opens the value
abbrev pub label : Bool → List ℕ → List ℕ
label true name = quoted name ++ 58 ∷ 34 ∷ []
label false name = 44 ∷ (quoted name ++ 58 ∷ 34 ∷ [])

-- a label for each column, which is empty where a later column has the same name
abbrev pub labels_from : Bool → List (List ℕ) → List (List ℕ)
labels_from is_first [] = []
labels_from is_first (name ∷ names) =
    if list_any (bytes_eq name) names then [] ∷ labels_from is_first names else label is_first name ∷ labels_from false names

-- a label and its value, where the label isn't empty
abbrev pub cell : List ℕ → Value → List ℕ
cell [] value = []
cell (byte ∷ bytes) value = (byte ∷ bytes) ++ flat_map escaped (value_text value) ++ 34 ∷ []

abbrev pub cells : List (List ℕ) → List Value → List ℕ
cells [] row = []
cells (label ∷ labels) [] = []
cells (label ∷ labels) (value ∷ row) = cell label value ++ cells labels row

-- the object of a row
abbrev pub labelled : List (List ℕ) → List Value → List ℕ
labelled labels row = 123 ∷ (cells labels row ++ 125 ∷ [])

abbrev pub labelled_rows : List (List ℕ) → List (List Value) → List (List ℕ)
labelled_rows labels rows = map (labelled labels) rows
