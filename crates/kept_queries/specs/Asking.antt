-- What a query means behind a kept list.
use Rattle.std.specs.Prelude.{◌≡◌, ℕ, List, ◌++◌}
use Rattle.osq_value.specs.declared.value.Value.{Value}
use Rattle.sql_query.specs.Resolved.{QueryTree}
use Rattle.sql_meaning.specs.Meaning.{meaning_of}
use Rattle.entry_model.specs.declared.entry.Entry.{Entry}
use Rattle.entry_model.specs.Legal.{Legal}
use Rattle.entry_model.specs.Summary.{summary}
use Rattle.entry_model.specs.Views.{view_of}
use Rattle.session_state.specs.Kept.{Kept}
use Rattle.session_state.specs.StateOf.{IsStateOf}

-- where the state stands for entries behind a legal list, the rows are those that the query means over all live events and the tables of
-- that list with these entries behind it, at this moment
abbrev pub MeansBehind : Kept → QueryTree → ℕ → List (List Value) → Type 0
MeansBehind state query moment rows =
    (before added : List Entry) → Legal before → IsStateOf (summary before) added state → rows ≡ meaning_of query (view_of (before ++ added) 0 moment)
