-- The first kind of fault that a select's names have, and else the query that the select stands for.
use Rattle.std.specs.Prelude.{ℕ, List, [], Option, Some, None}
use Rattle.std.specs.Option.{option_or}
use Rattle.sql_tree.specs.Select.{SelectTree}
use Rattle.sql_names.specs.declared.error.NameError.{NameError}
use Rattle.sql_names.specs.declared.error.NameKind.{NameKind}
use Rattle.sql_names.specs.declared.error.NameKind.TheVariants as kind
use Rattle.sql_scope.specs.declared.mention.Mention.{Mention}
use Rattle.sql_scope.specs.declared.naming.Rule.TheVariants as rule
use Rattle.sql_scope.specs.declared.scope.Seen.{Seen}
use Rattle.sql_query.specs.declared.derived.Derived.{Derived}
use Rattle.sql_query.specs.Exprs.{ExprTree}
use Rattle.sql_scope.specs.Scope.{scope_of}
use Rattle.sql_scope.specs.Mentions.{mentions_of_select}
use Rattle.sql_scope.specs.Shown.{ShownTree, Names}
use Rattle.sql_names.specs.Results.{results}
use Rattle.sql_names.specs.Kinds.{too_many_tables, no_table, no_column, ambiguous, bad_aggregate}
use Rattle.sql_names.specs.Bare.{bare_column_of}
use Rattle.sql_query.specs.Resolved.{QueryTree}
use Rattle.sql_names.specs.Making.{key_exprs, query_tree}

-- the names of a whole select, by its tables and the columns of its result
abbrev pub whole_names : List Derived → List ℕ → List Seen → List ShownTree → Names
whole_names derived text scope shown = record { derived = derived; text = text; scope = scope; shown = shown; rule = rule.Columns }

-- the columns of the result stand for columns of the tables alone
abbrev pub shown_in : List Derived → List ℕ → List Seen → SelectTree → List ShownTree
shown_in derived text scope select = results (whole_names derived text scope []) select.items

abbrev pub names_within : List Derived → List ℕ → List Seen → SelectTree → Names
names_within derived text scope select = whole_names derived text scope (shown_in derived text scope select)

unfoldable pub names_of_select : List Derived → List ℕ → SelectTree → Names
names_of_select derived text select = names_within derived text (scope_of derived text select.sources) select

abbrev pub fault_of : NameKind → Option ℕ → Option NameError
fault_of kind None = None
fault_of kind (Some place) = Some (record { place = place; kind = kind })

-- the kinds in the order in which they are tried, where the tables are not too many
abbrev pub fault_among : Names → List ExprTree → SelectTree → List Mention → Option NameError
fault_among names keys select found =
    option_or (fault_of kind.NoTable (no_table names select found))
    (option_or (fault_of kind.NoColumn (no_column names select found))
    (option_or (fault_of kind.Ambiguous (ambiguous names select found))
    (option_or (fault_of kind.BadAggregate (bad_aggregate names select found)) (fault_of kind.BareColumn (bare_column_of names keys select found)))))

abbrev pub fault_within : Names → SelectTree → Option NameError
fault_within names select = fault_among names (key_exprs names select.keys) select (mentions_of_select select)

-- the first kind that has a fault, with that kind's least place, where FROM may mean these derived tables too
unfoldable pub name_fault_with : List Derived → List ℕ → SelectTree → Option NameError
name_fault_with derived text select = option_or (fault_of kind.TooManyTables (too_many_tables select.sources)) (fault_within (names_of_select derived text select) select)

abbrev pub unless_fault : Option NameError → QueryTree → Option QueryTree
unless_fault None query = Some query
unless_fault (Some error) query = None

abbrev pub resolved_within : Names → SelectTree → Option QueryTree
resolved_within names select = unless_fault (fault_within names select) (query_tree names select (mentions_of_select select))

-- the query of a select without a fault
unfoldable pub resolved_with : List Derived → List ℕ → SelectTree → Option QueryTree
resolved_with derived text select = unless_fault (name_fault_with derived text select) (query_tree (names_of_select derived text select) select (mentions_of_select select))

-- the same where FROM means tables of the catalogue alone
unfoldable pub name_fault : List ℕ → SelectTree → Option NameError
name_fault text select = name_fault_with [] text select

unfoldable pub resolved : List ℕ → SelectTree → Option QueryTree
resolved text select = resolved_with [] text select
