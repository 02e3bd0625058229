-- What contracts see of a text with parts.
use Rattle.std.specs.Prelude.{ℕ, List, [], ◌∷◌, map}
use Rattle.sql_query.specs.declared.query.Query.{Query}
use Rattle.sql_query.specs.Answers.{result_names}
use Rattle.sql_query.specs.Resolved.{QueryTree, query_of}
use Rattle.sql_nested.specs.declared.query.NestedText.{NestedText}
use Rattle.sql_nested.specs.declared.query.NestedQuery.{NestedQuery}

-- the chains of the parts, and the text's own
pub record NestedTree : Type 0 where
  pub parts : List (List QueryTree)
  pub chain : List QueryTree

abbrev pub chain_of : List Query → List QueryTree
chain_of chain = map query_of chain

abbrev pub text_of : NestedText → NestedTree
text_of text = record { parts = map chain_of text.parts; chain = chain_of text.chain }

abbrev pub views_of : NestedQuery → List NestedTree
views_of query = map text_of query.views

-- the names of a chain's columns are those of its first select
abbrev pub chain_names : List QueryTree → List (List ℕ)
chain_names [] = []
chain_names (query ∷ queries) = result_names query
