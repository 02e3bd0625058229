-- What is kept of an accepted text.
use Rattle.std.specs.Prelude.{◌≡◌, ℕ, List, Some, None}
use Rattle.sql_query.specs.Answers.{result_names}
use Rattle.sql_query.specs.Resolved.{query_of}
use Rattle.sql_query.specs.declared.query.Query.{Query}
use Rattle.sql_texts.specs.TextFaults.{text_fault}
use Rattle.sql_texts.specs.Texts.{query_in}

-- the text has no fault, this is the query that it asks for, and these are the names of its result
pub record IsOfText (text : List ℕ) (query : Query) (names : List (List ℕ)) : Type 0 where
  pub sound : text_fault text ≡ None
  pub asks : query_in text ≡ Some (query_of query)
  pub named : names ≡ result_names (query_of query)
