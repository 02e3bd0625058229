-- From what the parts of `report` ensure to what it does.
use Rattle.std.proofs.Common.{◌≡◌, ◌++◌, ℕ, List, take, sym, subst}
use Rattle.osq_program.specs.declared.status.Status.{Status}
use Rattle.osq_program.specs.declared.status.Status.TheVariants.{Ok as Done, Usage, FilesFault, ConfigRefused, KeeperFault, KeeperRefused, MomentTooLarge, SourceFault, SourceShrank, NumbersSpent, SinkFault, TicksSpent, QueryRefused, OutOfMemory}
use Rattle.osq_program.specs.Answers.{Causes, IsCaused}
use Rattle.osq_program.specs.Observed.{Observed}
use Rattle.osq_program.specs.Reporting.{HasReport, IsShown, ReportLeaves, causes_of, loading_causes}
use Rattle.osq_program.specs.Report.{IsRefusedAs}
use Rattle.osq_program.proofs.Replays.{not_done, not_spent}
use Rattle.osq_program.proofs.Toldings.{as_plain, as_refused}

abbrev pub loading_in : Observed → Causes
loading_in seen = loading_causes seen.keeper_tells seen.kept_before seen.keeper_failed

cause_more : (seen : Observed) (s : Status) → IsCaused (loading_in seen) s → IsCaused (causes_of seen) s
cause_more seen Done caused = caused
cause_more seen Usage caused = caused
cause_more seen FilesFault caused = caused
cause_more seen (ConfigRefused kind key) caused = caused
cause_more seen KeeperFault caused = caused
cause_more seen KeeperRefused caused = caused
cause_more seen (MomentTooLarge moment) caused = caused
cause_more seen (SourceFault name) caused = caused
cause_more seen (SourceShrank name kept found) caused = caused
cause_more seen NumbersSpent caused = caused
cause_more seen SinkFault caused = absurd caused
cause_more seen TicksSpent caused = caused
cause_more seen (QueryRefused place kind) caused = caused
cause_more seen OutOfMemory caused = caused

nothing_left : (seen : Observed) (s : Status) → IsCaused (loading_in seen) s → (seen.sink_tells → seen.results_after ≡ seen.results_before) → ReportLeaves seen s
nothing_left seen Done caused same = absurd caused
nothing_left seen Usage caused same = same
nothing_left seen FilesFault caused same = same
nothing_left seen (ConfigRefused kind key) caused same = same
nothing_left seen KeeperFault caused same = same
nothing_left seen KeeperRefused caused same = same
nothing_left seen (MomentTooLarge moment) caused same = same
nothing_left seen (SourceFault name) caused same = same
nothing_left seen (SourceShrank name kept found) caused same = same
nothing_left seen NumbersSpent caused same = same
nothing_left seen SinkFault caused same = absurd caused
nothing_left seen TicksSpent caused same = same
nothing_left seen (QueryRefused place kind) caused same = same
nothing_left seen OutOfMemory caused same = same

-- there are no values
pub unreported : (seen : Observed) (s r : Status) → IsRefusedAs s r → IsCaused (loading_in seen) s → (seen.sink_tells → seen.results_after ≡ seen.results_before) → (seen.keeper_tells → seen.kept_after ≡ seen.kept_before) → IsShown seen r
unreported seen s r is caused same kept =
    as_refused (IsShown seen) s r is (unloaded s caused) (unloaded OutOfMemory tt)
  where
    unloaded : (s : Status) → IsCaused (loading_in seen) s → IsShown seen s
    unloaded s caused = record {
      leaves = nothing_left seen s caused same;
      quiet = λ done. absurd (not_done (loading_in seen) s caused done);
      unspent = λ spent. not_spent (loading_in seen) s caused spent;
      cause = λ refusal. cause_more seen s caused;
      kept = kept;
    }

-- the text was written, or a front part of it
pub reported_whole : (seen : Observed) (text : List ℕ) → HasReport seen.keeper_tells seen.kept_before text → (seen.sink_tells → seen.results_after ≡ seen.results_before ++ text) → (seen.sink_tells → seen.status_after ≡ seen.status_before) → (seen.keeper_tells → seen.kept_after ≡ seen.kept_before) → IsShown seen Done
reported_whole seen text has all quiet kept = record { leaves = (text, has, all); quiet = λ done. quiet; unspent = λ spent. spent; cause = λ refusal. absurd refusal; kept = kept }

pub reported_partly : (seen : Observed) (text : List ℕ) → HasReport seen.keeper_tells seen.kept_before text → (seen.sink_tells → (count : ℕ) × (seen.results_after ≡ seen.results_before ++ take count text)) → seen.results_failed
    → (seen.keeper_tells → seen.kept_after ≡ seen.kept_before) → (r : Status) → IsRefusedAs SinkFault r → IsShown seen r
reported_partly seen text has front failed kept r is =
    subst (IsShown seen) (sym (as_plain SinkFault r (λ none. none) is)) (record { leaves = (text, has, front); quiet = λ done. absurd done; unspent = λ spent. spent; cause = λ refusal. failed; kept = kept })
