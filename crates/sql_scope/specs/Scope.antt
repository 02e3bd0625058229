-- The FROM tables as names see them, and which column a name is.
use Rattle.std.specs.Prelude.{ℕ, ◌+◌, ◌^◌, ◌<◌, ◌&&◌, if◌then◌else◌, Bool, true, false, not, List, [], ◌∷◌, length, map, is_some, Option, Some, None}
use Rattle.std.specs.Option.{option_map_or, option_or}
use Rattle.osq_value.specs.declared.value.TheConstants.TableId.{NONE}
use Rattle.osq_value.specs.Catalogue.{id_of}
use Rattle.sql_tree.specs.Select.{RefTree}
use Rattle.sql_query.specs.declared.query.SourceColumn.{SourceColumn}
use Rattle.sql_scope.specs.declared.scope.Seen.{Seen}
use Rattle.sql_query.specs.declared.place.Place.{Place}
use Rattle.sql_query.specs.declared.derived.Derived.{Derived}
use Rattle.sql_query.specs.Tables.{FIRST_DERIVED, columns_at}
use Rattle.sql_scope.specs.Spelling.{name_text, same_name}

-- the number of the first of these derived tables that has the name; the first of those here has that number
abbrev pub derived_from : List ℕ → ℕ → List Derived → Option ℕ
derived_from name number [] = None
derived_from name number (known ∷ derived) = if same_name known.name name then Some number else derived_from name (number + 1) derived

-- the number of the table that a name of FROM means: of a derived one, or else of one of the catalogue
unfoldable pub table_meant : List Derived → List ℕ → Option ℕ
table_meant derived name = option_or (derived_from name FIRST_DERIVED derived) (id_of name)

-- The same. A name that means no table, which is a fault, has a number that no table has.
unfoldable pub table_number : List Derived → List ℕ → ℕ
table_number derived name = option_map_or (λ (id : ℕ). id) (table_meant derived name) NONE.0

-- A table is known by its alias, or else by its name.
unfoldable pub known_as : List ℕ → RefTree → List ℕ
known_as text ref = option_map_or (name_text text) ref.alias (name_text text ref.table)

abbrev pub columns_seen : List Derived → List ℕ → RefTree → List SourceColumn
columns_seen derived text ref = columns_at derived (table_number derived (name_text text ref.table))

-- a FROM table, by its number among them and the place of its first column in a row of the product
abbrev pub seen_at : List Derived → List ℕ → ℕ → ℕ → RefTree → Seen
seen_at derived text source at ref = record {
  source = source;
  at = at;
  table = record { 0 = table_number derived (name_text text ref.table) };
  known = known_as text ref;
  columns = columns_seen derived text ref;
  joined = map (name_text text) ref.using;
}

abbrev pub scope_from : List Derived → List ℕ → ℕ → ℕ → List RefTree → List Seen
scope_from derived text source at [] = []
scope_from derived text source at (ref ∷ refs) = seen_at derived text source at ref ∷ scope_from derived text (source + 1) (at + length (columns_seen derived text ref)) refs

-- the FROM tables of a select, in their order
unfoldable pub scope_of : List Derived → List ℕ → List RefTree → List Seen
scope_of derived text refs = scope_from derived text 0 0 refs

-- the first of a table's columns that has the name; the first of those here is the table's column of that number
abbrev pub place_from : Seen → List ℕ → ℕ → List SourceColumn → Option Place
place_from seen name number [] = None
place_from seen name number (column ∷ columns) = if same_name column.name name then Some (record { source = seen.source; column = number; at = seen.at + number; affinity = column.affinity }) else place_from seen name (number + 1) columns

unfoldable pub place_in : List ℕ → Seen → Option Place
place_in name seen = place_from seen name 0 seen.columns

-- the column of that name in the first table that has it
abbrev pub plain_place : List ℕ → List Seen → Option Place
plain_place name [] = None
plain_place name (seen ∷ scope) = option_or (place_in name seen) (plain_place name scope)

-- the same among the tables that are known by a name
abbrev pub known_place : List ℕ → List ℕ → List Seen → Option Place
known_place table name [] = None
known_place table name (seen ∷ scope) = if same_name seen.known table then option_or (place_in name seen) (known_place table name scope) else known_place table name scope

-- some table is known by a name
abbrev pub is_known : List ℕ → List Seen → Bool
is_known table [] = false
is_known table (seen ∷ scope) = if same_name seen.known table then true else is_known table scope

abbrev pub is_listed : List ℕ → List (List ℕ) → Bool
is_listed name [] = false
is_listed name (listed ∷ rest) = if same_name listed name then true else is_listed name rest

-- the table has the column, and its USING does not join it to that of an earlier table
abbrev pub has_own : List ℕ → Seen → Bool
has_own name seen = is_some (place_in name seen) && not (is_listed name seen.joined)

-- how many tables have a column of that name of their own
abbrev pub owners : List ℕ → List Seen → ℕ
owners name [] = 0
owners name (seen ∷ scope) = (if has_own name seen then 1 else 0) + owners name scope

-- the places of a table's columns are numbers of 32 bits
abbrev pub IsNarrow : Seen → Type 0
IsNarrow seen = seen.at + length seen.columns < 2 ^ 32

abbrev pub AreNarrow : List Seen → Type 0
AreNarrow [] = Unit {0}
AreNarrow (seen ∷ scope) = IsNarrow seen × AreNarrow scope
