-- What words ask for, and what is done of it.
use Rattle.std.proofs.lemmas.List.{append-nil}
use Rattle.std.proofs.Common.{◌∙◌, ◌≡◌, Bool, true, false, List, [], Option, Some, inl, refl, sym, ap, subst}
use Rattle.std.specs.Prelude.{ℕ, unwrap_or}
use Rattle.program_words.specs.Commands.{words_of}
use Rattle.program_words.specs.declared.command.CommandWords.{CommandWords}
use Rattle.program_words.specs.declared.command.CommandWords.TheVariants.{Replay as AsksReplay, Daemon as AsksDaemon, Query as AsksQuery, Check as AsksCheck, Collect as AsksCollect, Generate as AsksGenerate, SelfTest as AsksSelfTest, Report as AsksReport, Fleet as AsksFleet}
use Rattle.program_words.specs.declared.command.QueryWords.{QueryWords}
use Rattle.program_words.specs.declared.error.WordsError.{WordsError}
use Rattle.program_words.specs.declared.error.WordsError.TheVariants as faults
use Rattle.session_model.specs.Orders.{in_turn, at_once}
use Rattle.osq_program.specs.declared.status.Status.{Status}
use Rattle.osq_program.specs.declared.status.Status.TheVariants.{OutOfMemory}
use Rattle.osq_program.specs.Answers.{IsUsageStatus}
use Rattle.osq_program.specs.Commands.{IsForwarding, is_forwarding}
use Rattle.osq_program.specs.Doing.{MeetsCommand, DoesQuery, QueriesBy, TellsCommand, TellsOfQuery, TellsQueryBy}
use Rattle.osq_program.specs.Explaining.{IsExplain}
use Rattle.osq_program.specs.Querying.{IsQuery}
use Rattle.osq_program.specs.Observed.{Observed}
use Rattle.osq_program.specs.Report.{Tells, refusal_line, status_of}
use Rattle.osq_program.specs.Telling.{TellsAlone, TellsQuery}
use Rattle.osq_program.proofs.Endings.{untold_replay}
use Rattle.osq_program.proofs.Generations.{memory_wanting}
use Rattle.osq_program.proofs.Listings.{wants_memory}
use Rattle.osq_program.proofs.Questions.{no_memory}
use Rattle.osq_program.proofs.Replays.{no_memory as replay_wants}
use Rattle.osq_program.proofs.SelfTests.{untested}

pub does_explain : (words : QueryWords) (seen : Observed) (status : Status) → words.explain ≡ true → IsExplain (record { text = words.text }) seen status → DoesQuery words seen status
does_explain words seen status is does = subst (λ (b : Bool). QueriesBy b words seen status) (sym is) does

pub does_query : (words : QueryWords) (seen : Observed) (status : Status) → words.explain ≡ false → IsQuery words seen status → DoesQuery words seen status
does_query words seen status plain does = subst (λ (b : Bool). QueriesBy b words seen status) (sym plain) does

-- memory is wanting before anything is done
wants : (command : CommandWords) (seen : Observed) → seen.has_read [] → (seen.keeper_tells → seen.kept_after ≡ seen.kept_before) → (seen.sink_tells → seen.results_after ≡ seen.results_before) → (seen.sink_tells → seen.ledger_after ≡ seen.ledger_before) → MeetsCommand command seen OutOfMemory
wants (AsksReplay words) seen unread kept same ledger = replay_wants in_turn words seen OutOfMemory refl unread kept same
wants (AsksDaemon words) seen unread kept same ledger = replay_wants at_once words.run seen OutOfMemory refl unread kept same
wants (AsksQuery words) seen unread kept same ledger = by_flag words.explain
  where
    by_flag : (explain : Bool) → QueriesBy explain words seen OutOfMemory
    by_flag true = record { leaves = same; quiet = λ done. absurd done; unspent = λ spent. spent; cause = λ refusal. tt }
    by_flag false = no_memory words seen OutOfMemory refl same kept
wants (AsksCheck words) seen unread kept same ledger = wants_memory words seen OutOfMemory refl same kept
wants (AsksCollect words) seen unread kept same ledger = record { leaves = inl (λ tells. (same tells, ledger tells)); quiet = λ done. absurd done; cause = λ refusal. tt; kept = kept }
wants (AsksSelfTest words) seen unread kept same ledger = untested words seen same OutOfMemory refl
wants (AsksReport words) seen unread kept same ledger = record { leaves = same; quiet = λ done. absurd done; unspent = λ spent. spent; cause = λ refusal. tt; kept = kept }
wants (AsksFleet words) seen unread kept same ledger = record { leaves = same; quiet = λ done. absurd done; unspent = λ spent. spent; cause = λ refusal. tt; kept = kept }
wants (AsksGenerate words) seen unread kept same ledger = memory_wanting words seen (λ tells. (0, same tells ∙ sym (append-nil seen.results_before))) OutOfMemory refl

pub wants_by : (command : CommandWords) (seen : Observed) (status : Status) → status ≡ OutOfMemory → seen.has_read [] → (seen.keeper_tells → seen.kept_after ≡ seen.kept_before) → (seen.sink_tells → seen.results_after ≡ seen.results_before) → (seen.sink_tells → seen.ledger_after ≡ seen.ledger_before) → MeetsCommand command seen status
wants_by command seen status is unread kept same ledger = subst (λ (s : Status). MeetsCommand command seen s) (sym is) (wants command seen unread kept same ledger)

-- what is done for the command that was read is done for the one that the words spell
pub for_read : (read command : CommandWords) (seen : Observed) (status : Status) → Some read ≡ Some command → MeetsCommand read seen status → MeetsCommand command seen status
for_read read command seen status is does = subst (λ (c : CommandWords). MeetsCommand c seen status) (ap (λ (o : Option CommandWords). unwrap_or o read) is) does

-- and of what is told
pub tells_explain : (words : QueryWords) (seen : Observed) (status : Status) → words.explain ≡ true → TellsAlone seen status → TellsOfQuery words seen status
tells_explain words seen status is tells = subst (λ (b : Bool). TellsQueryBy b words seen status) (sym is) tells

pub tells_query : (words : QueryWords) (seen : Observed) (status : Status) → words.explain ≡ false → TellsQuery words seen status → TellsOfQuery words seen status
tells_query words seen status plain tells = subst (λ (b : Bool). TellsQueryBy b words seen status) (sym plain) tells

-- memory is wanting before anything is done, and that is told
wanting : (command : CommandWords) (seen : Observed) → seen.has_read [] → (seen.sink_tells → Tells seen.status_failed seen.status_before seen.status_after (refusal_line OutOfMemory)) → TellsCommand command seen OutOfMemory
wanting (AsksReplay words) seen unread told = untold_replay in_turn words seen OutOfMemory unread (record { front = []; before = refl; behind = told })
wanting (AsksDaemon words) seen unread told = untold_replay at_once words.run seen OutOfMemory unread (record { front = []; before = refl; behind = told })
wanting (AsksQuery words) seen unread told = by_flag words.explain
  where
    by_flag : (explain : Bool) → TellsQueryBy explain words seen OutOfMemory
    by_flag true = record { tells = λ short. record { front = []; before = refl; behind = told } }
    by_flag false = record { tells = λ short. record { front = []; before = inl refl; behind = told } }
wanting (AsksCheck words) seen unread told = record { tells = λ short. record { front = []; before = refl; behind = told } }
wanting (AsksCollect words) seen unread told = record { tells = λ short. record { front = []; before = refl; behind = told } }
wanting (AsksGenerate words) seen unread told = record { tells = λ short. record { front = []; before = refl; behind = told } }
wanting (AsksSelfTest words) seen unread told = record { tells = λ short. record { front = []; before = refl; behind = told } }
wanting (AsksReport words) seen unread told = record { tells = λ short. record { front = []; before = refl; behind = told } }
wanting (AsksFleet words) seen unread told = record { tells = λ short. record { front = []; before = refl; behind = told } }

pub tells_wanting : (command : CommandWords) (seen : Observed) (status : Status) → status ≡ OutOfMemory → seen.has_read [] → (seen.sink_tells → Tells seen.status_failed seen.status_before seen.status_after (refusal_line OutOfMemory)) → TellsCommand command seen status
tells_wanting command seen status is unread told = subst (λ (s : Status). TellsCommand command seen s) (sym is) (wanting command seen unread told)

pub told_for_read : (read command : CommandWords) (seen : Observed) (status : Status) → Some read ≡ Some command → TellsCommand read seen status → TellsCommand command seen status
told_for_read read command seen status is tells = subst (λ (c : CommandWords). TellsCommand c seen status) (ap (λ (o : Option CommandWords). unwrap_or o read) is) tells

-- a command that was read is one that forwards only where its words are
pub not_forwarding : (words : List (List ℕ)) (command : CommandWords) → words_of words ≡ Some command → ¬ IsForwarding words → is_forwarding command ≡ false
not_forwarding words command is quiet = by_test (is_forwarding command) refl where
  by_test : (t : Bool) → is_forwarding command ≡ t → is_forwarding command ≡ false
  by_test true forwards = absurd (quiet (command, is, forwards))
  by_test false still = still

-- a refusal of words that isn't their misuse is want of memory
pub only_memory : (error : WordsError) → (IsUsageStatus (status_of error) → ⊥) → error ≡ faults.NoMemory
only_memory faults.Usage not_usage = absurd (not_usage tt)
only_memory faults.NoMemory not_usage = refl
