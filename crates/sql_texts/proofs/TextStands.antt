-- The columns and aggregates of the query of a text without a fault stand where they may.
use Rattle.std.proofs.Common.{◌≡◌, ℕ, List, Option, Some, None}
use Rattle.std.proofs.lemmas.Option.{none-some}
use Rattle.sql_faults.specs.declared.error.ParseError.{ParseError}
use Rattle.sql_parser.specs.Text.{select_fault}
use Rattle.sql_tree.specs.Select.{SelectTree}
use Rattle.sql_query.specs.declared.derived.Derived.{Derived}
use Rattle.sql_query.specs.Resolved.{QueryTree}
use Rattle.sql_query.specs.Standing.{IsStanding}
use Rattle.sql_names.proofs.QueryStands.{resolved_stands}
use Rattle.sql_texts.specs.TextTree.{select_of_text}
use Rattle.sql_texts.specs.Texts.{query_unless, query_with_in}

query_by : (derived : List Derived) (fault : Option ParseError) (text : List ℕ) (select : Option SelectTree) (query : QueryTree) → query_unless derived fault text select ≡ Some query → IsStanding derived query
query_by derived (Some fault) text select query is = absurd (none-some query is)
query_by derived None text None query is = absurd (none-some query is)
query_by derived None text (Some select) query is = resolved_stands derived text select query is

pub query_stands : (derived : List Derived) (text : List ℕ) (query : QueryTree) → query_with_in derived text ≡ Some query → IsStanding derived query
unfolding query_with_in
query_stands derived text query is = query_by derived (select_fault text) text (select_of_text text) query is
