-- What `query --explain` does.
use Rattle.std.specs.Prelude.{◌≡◌, ℕ, List, ◌++◌, take, None, Some}
use Rattle.sql_query.specs.Resolved.{QueryTree}
use Rattle.sql_texts.specs.TextFaults.{text_fault}
use Rattle.sql_texts.specs.Texts.{query_in}
use Rattle.sql_planner.specs.Explained.{explained}
use Rattle.sql_planner.specs.Plans.{planned}
use Rattle.osq_program.specs.declared.status.Status.{Status}
use Rattle.osq_program.specs.declared.status.Status.TheVariants.{Ok as Done, SinkFault}
use Rattle.osq_program.specs.Answers.{Causes, IsCaused, IsSpentStatus, IsDoneStatus, IsRefusal, no_causes}
use Rattle.osq_program.specs.Commands.{Explain}
use Rattle.osq_program.specs.Querying.{IsRefusedAt}
use Rattle.osq_program.specs.Observed.{Observed}

-- the text is a query, and these bytes show the plan of it
pub record ShowsPlan (w : Explain) (shown : List ℕ) : Type 0 where
  pub accepted : text_fault w.text ≡ None
  pub query : QueryTree
  pub read : query_in w.text ≡ Some query
  pub are : shown ≡ explained (planned query)

-- the causes: a text that is no query, and behind one that is a fault of the sink
abbrev pub causes_of : Explain → Observed → Causes
causes_of w seen = record no_causes { query = IsRefusedAt w.text; sink = (text_fault w.text ≡ None) × seen.results_failed }

-- what each answer leaves in the results: at a fault of the sink a front part of the plan's text, at any other refusal nothing
abbrev pub ExplainLeaves : Explain → Observed → Status → Type 0
ExplainLeaves w seen Done = (shown : List ℕ) × ShowsPlan w shown × (seen.sink_tells → seen.results_after ≡ seen.results_before ++ shown)
ExplainLeaves w seen SinkFault = (shown : List ℕ) × ShowsPlan w shown × (seen.sink_tells → (count : ℕ) × (seen.results_after ≡ seen.results_before ++ take count shown))
ExplainLeaves w seen _ = seen.sink_tells → seen.results_after ≡ seen.results_before

pub record IsExplain (w : Explain) (seen : Observed) (status : Status) : Type 0 where
  pub leaves : ExplainLeaves w seen status
  pub quiet : IsDoneStatus status → seen.sink_tells → seen.status_after ≡ seen.status_before
  pub unspent : IsSpentStatus status → ⊥
  pub cause : IsRefusal status → IsCaused (causes_of w seen) status
