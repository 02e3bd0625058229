-- From what the parts of `query --explain` ensure to what it does.
use Rattle.std.proofs.Common.{◌≡◌, ◌++◌, ℕ, List, take, sym, subst, Some, None}
use Rattle.sql_query.specs.Resolved.{QueryTree}
use Rattle.sql_texts.specs.TextFaults.{text_fault}
use Rattle.sql_texts.specs.Texts.{query_in}
use Rattle.sql_planner.specs.Explained.{explained}
use Rattle.sql_planner.specs.Plans.{planned}
use Rattle.osq_program.specs.declared.status.Status.{Status}
use Rattle.osq_program.specs.declared.status.Status.TheVariants.{Ok as Done, Usage, FilesFault, ConfigRefused, KeeperFault, KeeperRefused, MomentTooLarge, SourceFault, SourceShrank, NumbersSpent, SinkFault, TicksSpent, QueryRefused, OutOfMemory}
use Rattle.osq_program.specs.Answers.{IsCaused, no_causes}
use Rattle.osq_program.specs.Commands.{Explain}
use Rattle.osq_program.specs.Explaining.{IsExplain, ExplainLeaves, ShowsPlan, causes_of}
use Rattle.osq_program.specs.Querying.{IsRefusedAt}
use Rattle.osq_program.specs.Observed.{Observed}
use Rattle.osq_program.proofs.Replays.{not_done, not_spent}

cause_more : (w : Explain) (seen : Observed) (s : Status) → IsCaused (record no_causes { query = IsRefusedAt w.text }) s → IsCaused (causes_of w seen) s
cause_more w seen Done caused = caused
cause_more w seen Usage caused = caused
cause_more w seen FilesFault caused = caused
cause_more w seen (ConfigRefused kind key) caused = caused
cause_more w seen KeeperFault caused = caused
cause_more w seen KeeperRefused caused = caused
cause_more w seen (MomentTooLarge moment) caused = caused
cause_more w seen (SourceFault name) caused = caused
cause_more w seen (SourceShrank name kept found) caused = caused
cause_more w seen NumbersSpent caused = caused
cause_more w seen SinkFault caused = absurd caused
cause_more w seen TicksSpent caused = caused
cause_more w seen (QueryRefused place kind) caused = caused
cause_more w seen OutOfMemory caused = caused

nothing_left : (w : Explain) (seen : Observed) (s : Status) → IsCaused (record no_causes { query = IsRefusedAt w.text }) s → (seen.sink_tells → seen.results_after ≡ seen.results_before) → ExplainLeaves w seen s
nothing_left w seen Done caused same = absurd caused
nothing_left w seen Usage caused same = same
nothing_left w seen FilesFault caused same = same
nothing_left w seen (ConfigRefused kind key) caused same = same
nothing_left w seen KeeperFault caused same = same
nothing_left w seen KeeperRefused caused same = same
nothing_left w seen (MomentTooLarge moment) caused same = same
nothing_left w seen (SourceFault name) caused same = same
nothing_left w seen (SourceShrank name kept found) caused same = same
nothing_left w seen NumbersSpent caused same = same
nothing_left w seen SinkFault caused same = absurd caused
nothing_left w seen TicksSpent caused same = same
nothing_left w seen (QueryRefused place kind) caused same = same
nothing_left w seen OutOfMemory caused same = same

-- by the text
pub unexplained : (w : Explain) (seen : Observed) (s r : Status) → r ≡ s → IsCaused (record no_causes { query = IsRefusedAt w.text }) s → (seen.sink_tells → seen.results_after ≡ seen.results_before) → IsExplain w seen r
unexplained w seen s r is caused same =
    subst (IsExplain w seen) (sym is) (record {
      leaves = nothing_left w seen s caused same;
      quiet = λ done. absurd (not_done (record no_causes { query = IsRefusedAt w.text }) s caused done);
      unspent = λ spent. not_spent (record no_causes { query = IsRefusedAt w.text }) s caused spent;
      cause = λ refusal. cause_more w seen s caused;
    })

pub plan_shown : (w : Explain) (query : QueryTree) (shown : List ℕ) → text_fault w.text ≡ None → query_in w.text ≡ Some query → shown ≡ explained (planned query) → ShowsPlan w shown
plan_shown w query shown accepted read are = record { accepted = accepted; query = query; read = read; are = are }

-- the text was written, or a front part of it
pub explained_whole : (w : Explain) (seen : Observed) (shown : List ℕ) → ShowsPlan w shown → (seen.sink_tells → seen.results_after ≡ seen.results_before ++ shown) → (seen.sink_tells → seen.status_after ≡ seen.status_before) → IsExplain w seen Done
explained_whole w seen shown plan all quiet = record { leaves = (shown, plan, all); quiet = λ done. quiet; unspent = λ spent. spent; cause = λ refusal. absurd refusal }

pub explained_partly : (w : Explain) (seen : Observed) (shown : List ℕ) → ShowsPlan w shown → (seen.sink_tells → (count : ℕ) × (seen.results_after ≡ seen.results_before ++ take count shown)) → seen.results_failed
    → (r : Status) → r ≡ SinkFault → IsExplain w seen r
explained_partly w seen shown plan front failed r is =
    subst (IsExplain w seen) (sym is) (record { leaves = (shown, plan, front); quiet = λ done. absurd done; unspent = λ spent. spent; cause = λ refusal. (plan.accepted, failed) })
