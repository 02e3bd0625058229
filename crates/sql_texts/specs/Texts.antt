-- What a text asks for: its query, where neither its grammar nor its names have a fault.
use Rattle.std.specs.Prelude.{ℕ, List, [], Option, Some, None}
use Rattle.sql_faults.specs.declared.error.ParseError.{ParseError}
use Rattle.sql_tree.specs.Select.{SelectTree}
use Rattle.sql_parser.specs.Text.{select_fault}
use Rattle.sql_names.specs.Resolve.{resolved_with}
use Rattle.sql_query.specs.declared.derived.Derived.{Derived}
use Rattle.sql_query.specs.Resolved.{QueryTree}
use Rattle.sql_texts.specs.TextTree.{select_of_text}

abbrev pub query_unless : List Derived → Option ParseError → List ℕ → Option SelectTree → Option QueryTree
query_unless derived (Some fault) text tree = None
query_unless derived None text None = None
query_unless derived None text (Some tree) = resolved_with derived text tree

-- the query of a text without a fault, where FROM may mean these derived tables too
unfoldable pub query_with_in : List Derived → List ℕ → Option QueryTree
query_with_in derived text = query_unless derived (select_fault text) text (select_of_text text)

-- the same where FROM means tables of the catalogue alone
unfoldable pub query_in : List ℕ → Option QueryTree
query_in text = query_with_in [] text
