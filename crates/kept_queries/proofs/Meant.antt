-- The rows over what is shown of a state are those behind each list for which it stands.
use Rattle.std.proofs.Common.{◌≡◌, ℕ, List, ◌++◌, ap, ◌∙◌, refl}
use Rattle.osq_value.specs.declared.value.Value.{Value}
use Rattle.sql_query.specs.Resolved.{QueryTree}
use Rattle.sql_meaning.specs.Meaning.{meaning_of}
use Rattle.entry_model.specs.Views.{view_of}
use Rattle.event_store.specs.Contents.{rows_in}
use Rattle.session_state.specs.Computed.{shown_by}
use Rattle.session_state.specs.Kept.{Kept, IsState}
use Rattle.session_state.specs.Laws.{Shows}
use Rattle.kept_queries.specs.Asking.{MeansBehind}

pub meant : Shows → (state : Kept) → IsState state → (query : QueryTree) → (moment : ℕ) → (rows : List (List Value)) → rows ≡ meaning_of query (rows_in (shown_by state 0 moment)) → MeansBehind state query moment rows
meant shows state is query moment rows same before added legal stands =
    let values = stands.values before legal refl in
    let each : (table : ℕ) → rows_in (shown_by state 0 moment) table ≡ view_of (before ++ added) 0 moment table = λ table. shows (before ++ added) state is values 0 moment table in
    same ∙ ap (meaning_of query) (λ i table. each table i)
