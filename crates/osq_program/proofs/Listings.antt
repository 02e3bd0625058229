-- From what the parts of a check ensure to what `check` does.
use Rattle.std.proofs.Common.{◌≡◌, ◌⊎◌, ◌<◌, refl, ℕ, ◌+◌, length, get_or, List, [], ◌∷◌, ◌++◌, take, sym, ap, ◌∙◌, subst, append-nil, append_assoc}
use Rattle.std.proofs.lemmas.List.{take_more}
use Rattle.osq_config.specs.declared.error.ConfigError.{ConfigError}
use Rattle.pack_rules.specs.declared.schedule.Scheduled.{Scheduled}
use Rattle.osq_program.specs.declared.status.Status.{Status}
use Rattle.osq_program.specs.declared.status.Status.TheVariants.{Ok as Done, Usage, FilesFault, ConfigRefused, KeeperFault, KeeperRefused, MomentTooLarge, SourceFault, SourceShrank, NumbersSpent, SinkFault, TicksSpent, QueryRefused, OutOfMemory}
use Rattle.osq_program.specs.Answers.{Causes, IsCaused, no_causes}
use Rattle.config_files.specs.Naming.{key_of_error, kind_of_error}
use Rattle.osq_program.specs.Checking.{HasLines, IsCheck, IsRefusedFor, CheckLeaves, Refuses, causes_of, query_line, schedule_lines}
use Rattle.program_words.specs.declared.command.CheckWords.{CheckWords}
use Rattle.osq_program.specs.Observed.{Observed}
use Rattle.osq_program.specs.Telling.{MayCheckTell}
use Rattle.osq_program.proofs.Replays.{not_spent}

lines_end : (queries : List Scheduled) (scheduled : Scheduled) → schedule_lines (queries ++ scheduled ∷ []) ≡ schedule_lines queries ++ query_line scheduled
lines_end [] scheduled = append-nil (query_line scheduled)
lines_end (first ∷ queries) scheduled =
    ap (λ (ls : List ℕ). query_line first ++ ls) (lines_end queries scheduled) ∙ sym (append_assoc (query_line first) (schedule_lines queries) (query_line scheduled))

-- one turn more of the loop over the queries
pub lines_turn : (queries : List Scheduled) (at : ℕ) (scheduled : Scheduled) → at < length queries → scheduled ≡ get_or queries at scheduled
    → schedule_lines (take (at + 1) queries) ≡ schedule_lines (take at queries) ++ query_line scheduled
lines_turn queries at scheduled within is =
    ap schedule_lines (take_more queries at scheduled within ∙ ap (λ (s : Scheduled). take at queries ++ s ∷ []) (sym is)) ∙ lines_end (take at queries) scheduled

-- the answer to a document's error is caused by it
pub by_error : (failed : Type 0) (R : List ℕ → List ℕ → Type 0) (error : ConfigError) → ((kind key : List ℕ) → kind ≡ kind_of_error error → key ≡ key_of_error error → R kind key)
    → (s : Status) → Refuses error s → IsCaused (record no_causes { files = failed; refused = R }) s
by_error failed R error gives Done refuses = absurd refuses
by_error failed R error gives Usage refuses = absurd refuses
by_error failed R error gives FilesFault refuses = absurd refuses
by_error failed R error gives (ConfigRefused kind key) refuses = gives kind.now key refuses.1 refuses.2
by_error failed R error gives KeeperFault refuses = absurd refuses
by_error failed R error gives KeeperRefused refuses = absurd refuses
by_error failed R error gives (MomentTooLarge moment) refuses = absurd refuses
by_error failed R error gives (SourceFault name) refuses = absurd refuses
by_error failed R error gives (SourceShrank name kept found) refuses = absurd refuses
by_error failed R error gives NumbersSpent refuses = absurd refuses
by_error failed R error gives SinkFault refuses = absurd refuses
by_error failed R error gives TicksSpent refuses = absurd refuses
by_error failed R error gives (QueryRefused place kind) refuses = absurd refuses
by_error failed R error gives OutOfMemory refuses = tt

abbrev config_causes : CheckWords → Observed → Causes
config_causes w seen = record no_causes { files = seen.files_failed; refused = IsRefusedFor seen.files_tell seen.file w.config }

check_cause : (w : CheckWords) (seen : Observed) (s : Status) → IsCaused (config_causes w seen) s → IsCaused (causes_of w seen) s
check_cause w seen Done caused = caused
check_cause w seen Usage caused = caused
check_cause w seen FilesFault caused = caused
check_cause w seen (ConfigRefused kind key) caused = caused
check_cause w seen KeeperFault caused = caused
check_cause w seen KeeperRefused caused = absurd caused
check_cause w seen (MomentTooLarge moment) caused = caused
check_cause w seen (SourceFault name) caused = caused
check_cause w seen (SourceShrank name kept found) caused = absurd caused
check_cause w seen NumbersSpent caused = absurd caused
check_cause w seen SinkFault caused = absurd caused
check_cause w seen TicksSpent caused = caused
check_cause w seen (QueryRefused place kind) caused = caused
check_cause w seen OutOfMemory caused = caused

check_leaves : (w : CheckWords) (seen : Observed) (s : Status) → IsCaused (config_causes w seen) s → (seen.sink_tells → seen.results_after ≡ seen.results_before) → CheckLeaves w seen s
check_leaves w seen Done caused same = absurd caused
check_leaves w seen Usage caused same = same
check_leaves w seen FilesFault caused same = same
check_leaves w seen (ConfigRefused kind key) caused same = same
check_leaves w seen KeeperFault caused same = same
check_leaves w seen KeeperRefused caused same = same
check_leaves w seen (MomentTooLarge moment) caused same = same
check_leaves w seen (SourceFault name) caused same = same
check_leaves w seen (SourceShrank name kept found) caused same = same
check_leaves w seen NumbersSpent caused same = same
check_leaves w seen SinkFault caused same = absurd caused
check_leaves w seen TicksSpent caused same = same
check_leaves w seen (QueryRefused place kind) caused same = same
check_leaves w seen OutOfMemory caused same = same

pub check_may : (w : CheckWords) (seen : Observed) (R : List ℕ → List ℕ → Type 0) (s : Status) → IsCaused (record no_causes { refused = R }) s → MayCheckTell w seen s []
check_may w seen R Done caused = refl
check_may w seen R Usage caused = refl
check_may w seen R FilesFault caused = absurd caused
check_may w seen R (ConfigRefused kind key) caused = refl
check_may w seen R KeeperFault caused = refl
check_may w seen R KeeperRefused caused = refl
check_may w seen R (MomentTooLarge moment) caused = refl
check_may w seen R (SourceFault name) caused = refl
check_may w seen R (SourceShrank name kept found) caused = refl
check_may w seen R NumbersSpent caused = refl
check_may w seen R SinkFault caused = absurd caused
check_may w seen R TicksSpent caused = refl
check_may w seen R (QueryRefused place kind) caused = refl
check_may w seen R OutOfMemory caused = refl

-- by the configuration
pub refused_config : (w : CheckWords) (seen : Observed) (s r : Status) → r ≡ s → IsCaused (record no_causes { files = seen.files_failed; refused = IsRefusedFor seen.files_tell seen.file w.config }) s
    → (seen.sink_tells → seen.results_after ≡ seen.results_before) → (seen.keeper_tells → seen.kept_after ≡ seen.kept_before) → IsCheck w seen r
refused_config w seen s r is caused same kept =
    subst (IsCheck w seen) (sym is) (record {
      leaves = check_leaves w seen s caused same;
      unspent = not_spent (config_causes w seen) s caused;
      cause = λ refusal. check_cause w seen s caused;
      kept = kept;
    })

pub wants_memory : (w : CheckWords) (seen : Observed) (r : Status) → r ≡ OutOfMemory → (seen.sink_tells → seen.results_after ≡ seen.results_before) → (seen.keeper_tells → seen.kept_after ≡ seen.kept_before)
    → IsCheck w seen r
wants_memory w seen r is same kept = subst (IsCheck w seen) (sym is) (record { leaves = same; unspent = λ spent. spent; cause = λ refusal. tt; kept = kept })

pub listed : (w : CheckWords) (seen : Observed) (lines notes : List ℕ) → HasLines w seen lines notes → (seen.sink_tells → (seen.results_after ≡ seen.results_before ++ lines) × (seen.status_after ≡ seen.status_before ++ notes))
    → (seen.keeper_tells → seen.kept_after ≡ seen.kept_before) → IsCheck w seen Done
listed w seen lines notes has all kept = record { leaves = (lines, notes, has, all); unspent = λ spent. spent; cause = λ refusal. absurd refusal; kept = kept }

pub partly_listed : (w : CheckWords) (seen : Observed) (lines notes : List ℕ) → HasLines w seen lines notes → (seen.sink_tells → (count : ℕ) × (seen.results_after ≡ seen.results_before ++ take count lines))
    → seen.results_failed ⊎ seen.status_failed → (seen.keeper_tells → seen.kept_after ≡ seen.kept_before) → (r : Status) → r ≡ SinkFault → IsCheck w seen r
partly_listed w seen lines notes has front failed kept r is =
    subst (IsCheck w seen) (sym is) (record { leaves = (lines, notes, has, front); unspent = λ spent. spent; cause = λ refusal. failed; kept = kept })
