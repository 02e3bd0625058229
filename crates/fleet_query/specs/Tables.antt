-- The tables of a host's recorded frames.
use Rattle.std.specs.Prelude.{ℕ, ◌+◌, ◌-◌, ◌&&◌, pos, nat_le, bytes_eq, if◌then◌else◌, Bool, List, [], ◌∷◌, ◌++◌, length, map, take, flat_map, zip, get_or, codes, Option, Some, None, false}
use Rattle.std.specs.Cmp.Lexicographic.{pointwise}
use Rattle.osq_value.specs.declared.catalogue.Affinity.{Affinity}
use Rattle.osq_value.specs.declared.catalogue.Affinity.TheVariants.{Integer as IntegerKind, Text as TextKind}
use Rattle.osq_value.specs.declared.value.Value.{Value}
use Rattle.osq_value.specs.declared.value.Value.TheVariants.{Int, Text}
use Rattle.result_batches.specs.Frames.{mode_text}
use Rattle.sql_meaning.specs.Meaning.{View}
use Rattle.sql_query.specs.declared.query.SourceColumn.{SourceColumn}
use Rattle.sql_query.specs.declared.derived.Derived.{Derived}
use Rattle.batch_frames.specs.declared.frame.Frame.{Frame}
use Rattle.fleet_query.specs.Names.{last_frames, name_of}

abbrev pub column : List ℕ → Option Affinity → SourceColumn
column name affinity = record { name = name; affinity = affinity; hidden = false }

abbrev pub i : List ℕ → SourceColumn
i name = column name (Some IntegerKind)

abbrev pub t : List ℕ → SourceColumn
t name = column name (Some TextKind)

abbrev pub any : List ℕ → SourceColumn
any name = column name None

abbrev pub number : ℕ → Value
number n = Int (pos n)

-- of the table of batches: its columns, and its row for a frame
abbrev pub batch_columns : List SourceColumn
batch_columns = i (codes "number") ∷ t (codes "name") ∷ t (codes "mode") ∷ i (codes "lo") ∷ i (codes "hi") ∷ i (codes "moment") ∷ i (codes "rows") ∷ []

abbrev pub batch_row : Frame → List Value
batch_row f = number f.batch.number ∷ Text f.batch.query.name ∷ Text (mode_text f.batch.query.mode) ∷ number f.batch.lo ∷ number f.batch.hi ∷ number f.batch.moment ∷ number (length f.batch.rows) ∷ []

-- of the table of their values: its columns, its row for a value, and its rows for a frame's row of that number and for a frame's rows from there on
abbrev pub cell_columns : List SourceColumn
cell_columns = i (codes "number") ∷ t (codes "name") ∷ i (codes "row") ∷ t (codes "column_name") ∷ any (codes "value") ∷ []

abbrev pub cell : Frame → ℕ → List ℕ × Value → List Value
cell f row named = number f.batch.number ∷ Text f.batch.query.name ∷ number row ∷ Text named.0 ∷ named.1 ∷ []

abbrev pub cells : Frame → ℕ → List Value → List (List Value)
cells f row values = map (cell f row) (zip f.names values)

abbrev pub cells_from : Frame → ℕ → List (List Value) → List (List Value)
cells_from f row [] = []
cells_from f row (values ∷ rows) = cells f row values ++ cells_from f (row + 1) rows

abbrev pub cells_of : Frame → List (List Value)
cells_of f = cells_from f 0 f.batch.rows

-- of a query's table: its columns, by the query's last frame, and its rows for a frame, which has some where it is the query's and has the last one's names
abbrev pub query_columns : Frame → List SourceColumn
query_columns last = i (codes "batch_number") ∷ i (codes "moment") ∷ map any last.names

abbrev pub is_like : Frame → Frame → Bool
is_like last f = bytes_eq (name_of f) (name_of last) && pointwise bytes_eq f.names last.names

abbrev pub numbered : Frame → List Value → List Value
numbered f values = number f.batch.number ∷ number f.batch.moment ∷ values

abbrev pub rows_like : Frame → Frame → List (List Value)
rows_like last f = if is_like last f then map (numbered f) f.batch.rows else []

abbrev pub query_rows : List Frame → Frame → List (List Value)
query_rows frames last = flat_map (rows_like last) frames

-- only so many queries have a table
abbrev pub QUERY_TABLES : ℕ
QUERY_TABLES = 90

-- a host's tables with those of its batches and of their values
abbrev pub TABLES : ℕ
TABLES = 92

-- the last frames of the queries that have one
abbrev pub shown_lasts : List Frame → List Frame
shown_lasts frames = take QUERY_TABLES (last_frames frames)

abbrev pub table : List ℕ → List SourceColumn → Derived
table name columns = record { name = name; columns = columns }

abbrev pub query_table : Frame → Derived
query_table last = table (name_of last) (query_columns last)

-- the tables: the batches, their values, and one for each query
abbrev pub derived_by : List Frame → List Derived
derived_by lasts = table (codes "batches") batch_columns ∷ table (codes "batch_rows") cell_columns ∷ map query_table lasts

unfoldable pub fleet_derived : List Frame → List Derived
fleet_derived frames = derived_by (shown_lasts frames)

-- their rows, in the same order
abbrev pub fleet_rows : List Frame → List (List (List Value))
fleet_rows frames = map batch_row frames ∷ flat_map cells_of frames ∷ map (query_rows frames) (shown_lasts frames)

unfoldable pub rows_at : List Frame → ℕ → List (List Value)
rows_at frames place = get_or (fleet_rows frames) place []

-- and by their numbers; a table of the catalogue has none
unfoldable pub fleet_view : List Frame → View
fleet_view frames id = if nat_le 100 id then rows_at frames (id - 100) else []
