-- The table of a line.
use Rattle.std.specs.Prelude.{ℕ, ◌&&◌, bytes_eq, Bool, true, false, List, [], ◌∷◌, codes, map, if◌then◌else◌, Option, Some, None, option_map, option_and_then}
use Rattle.std.specs.Fmt.{signed_decimal}
use Rattle.std.specs.Option.{option_map_or}
use Rattle.serde_json.specs.Data.{Data, null, boolean, number, string, array, object, Items, no_items, item}
use Rattle.serde_json.specs.Find.{get, as_array, as_i64, as_integer}
use Rattle.osq_value.specs.declared.catalogue.Affinity.{Affinity}
use Rattle.osq_value.specs.declared.catalogue.Affinity.TheVariants as affinity
use Rattle.osq_value.specs.declared.catalogue.TableKind.{TableKind}
use Rattle.osq_value.specs.declared.catalogue.TableKind.TheVariants.{Evented, Recorded, Computed}
use Rattle.osq_value.specs.declared.value.Value.{Value}
use Rattle.osq_value.specs.declared.value.Value.TheVariants.{Null, Int, Text}
use Rattle.osq_value.specs.declared.reading.Reading.{Reading}
use Rattle.osq_value.specs.declared.reading.Reading.TheVariants as reading
use Rattle.osq_value.specs.Catalogue.{Column, Heading, columns_of, heading_at, id_of}
use Rattle.osq_value.specs.Spelling.{int_of}
use Rattle.change_records.specs.Changes.{text_at}

-- all the values, where each is there
abbrev pub all_there : {X : Type 0} → List (Option X) → Option (List X)
all_there [] = Some []
all_there (x ∷ xs) = option_and_then (λ first. option_map (λ rest. first ∷ rest) (all_there xs)) x

-- a text in a column of whole numbers
abbrev pub spelled_cell : List ℕ → Value
spelled_cell [] = Null
spelled_cell (byte ∷ rest) = option_map_or Int (int_of (byte ∷ rest)) (Text (byte ∷ rest))

-- a column of whole numbers, and a column of texts
abbrev pub integer_cell : Option Data → Option Value
integer_cell None = Some Null
integer_cell (Some null) = Some Null
integer_cell (Some (boolean _)) = None
integer_cell (Some (number n)) = option_map Int (as_i64 n)
integer_cell (Some (string s)) = Some (spelled_cell s)
integer_cell (Some (array _)) = None
integer_cell (Some (object _)) = None

abbrev pub text_cell : Option Data → Option Value
text_cell None = Some Null
text_cell (Some null) = Some Null
text_cell (Some (boolean _)) = None
text_cell (Some (number n)) = option_map (λ z. Text (signed_decimal z)) (as_integer n)
text_cell (Some (string s)) = Some (Text s)
text_cell (Some (array _)) = None
text_cell (Some (object _)) = None

abbrev pub cell_of : Affinity → Option Data → Option Value
cell_of affinity.Integer cell = integer_cell cell
cell_of affinity.Text cell = text_cell cell

-- the cells of an object, in the order of the columns
abbrev pub cells_of : List Column → Data → Option (List Value)
cells_of columns line = all_there (map (λ (column : Column). cell_of column.affinity (get column.name line)) columns)

-- a row is an object
abbrev pub row_of : List Column → Data → Option (List Value)
row_of columns null = None
row_of columns (boolean _) = None
row_of columns (number _) = None
row_of columns (string _) = None
row_of columns (array _) = None
row_of columns (object members) = cells_of columns (object members)

abbrev pub list_of : Items → List Data
list_of no_items = []
list_of (item first rest) = first ∷ list_of rest

abbrev pub rows_of : List Column → Data → Option (List (List Value))
rows_of columns line = option_and_then (λ rows. all_there (map (row_of columns) (list_of rows))) (option_and_then as_array (get (codes "rows") line))

abbrev pub is_recorded : TableKind → Bool
is_recorded Evented = false
is_recorded Recorded = true
is_recorded Computed = false

-- the number of the recorded table whose name is exactly this
abbrev pub recorded_named : List ℕ → Option ℕ
recorded_named name =
    option_and_then (λ id. option_and_then (λ (heading : Heading). if bytes_eq heading.name name && is_recorded heading.kind then Some id else None) (heading_at id)) (id_of name)

abbrev pub table_reading : ℕ → List (List Value) → Reading
table_reading table rows = reading.Table 0 (record { 0 = table }) rows

unfoldable pub table_of : Data → Option Reading
table_of line = option_and_then (λ table. option_map (table_reading table) (rows_of (columns_of table) line)) (option_and_then recorded_named (text_at (codes "table") line))
