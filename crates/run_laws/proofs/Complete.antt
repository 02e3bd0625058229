-- A run that is ready is complete.
use Rattle.std.proofs.Common.{◌≡◌, Bool, true, false}
use Rattle.program_words.specs.Bounds.{IsBounded}
use Rattle.program_words.specs.declared.command.CheckWords.{CheckWords}
use Rattle.program_words.specs.declared.command.CommandWords.{CommandWords}
use Rattle.program_words.specs.declared.command.CommandWords.TheVariants.{Replay as AsksReplay, Daemon as AsksDaemon, Query as AsksQuery, Check as AsksCheck, Collect as AsksCollect, Generate as AsksGenerate, SelfTest as AsksSelfTest, Report as AsksReport, Fleet as AsksFleet}
use Rattle.program_words.specs.declared.command.GenerateWords.{GenerateWords}
use Rattle.program_words.specs.declared.command.QueryWords.{QueryWords}
use Rattle.program_words.specs.Bounds.{RunBounds}
use Rattle.session_model.specs.Orders.{in_turn, at_once}
use Rattle.osq_program.specs.declared.status.Status.{Status}
use Rattle.osq_program.specs.Answers.{IsUsageStatus}
use Rattle.osq_program.specs.Checking as checking
use Rattle.osq_program.specs.Checking.{IsCheck}
use Rattle.osq_program.specs.Commands.{Explain}
use Rattle.osq_program.specs.Doing.{MeetsCommand, QueriesBy}
use Rattle.osq_program.specs.Explaining as explaining
use Rattle.osq_program.specs.Explaining.{IsExplain}
use Rattle.osq_program.specs.Generating as generating
use Rattle.osq_program.specs.Generating.{IsGenerate}
use Rattle.osq_program.specs.Observed.{Observed}
use Rattle.osq_program.specs.Reporting as reporting
use Rattle.osq_program.specs.Reporting.{IsShown}
use Rattle.osq_program.specs.SelfTesting as testing
use Rattle.osq_program.specs.SelfTesting.{IsSelfTest}
use Rattle.sql_texts.specs.TextFaults.{text_fault}
use Rattle.std.specs.Prelude.{None}
use Rattle.run_laws.specs.Completeness.{Completes, IsComplete}
use Rattle.run_laws.specs.Ready.{IsAskReady, IsCheckReady, IsReady, IsReportReady, NoneFails}
use Rattle.run_laws.proofs.Accepted.{no_text_fault, not_refused}
use Rattle.run_laws.proofs.Asked.{asked}
use Rattle.run_laws.proofs.Collected.{collected}
use Rattle.run_laws.proofs.Questioned.{questioned}
use Rattle.run_laws.proofs.Replayed.{either, replayed}
use Rattle.run_laws.proofs.Settled.{settled}

checked : (words : CheckWords) (seen : Observed) → NoneFails seen → IsCheckReady words seen → (status : Status) → IsCheck words seen status → ¬ IsUsageStatus status → IsComplete status
checked words seen fails ready status does usage =
    settled (checking.causes_of words seen) status
    (record {
      query = λ place kind none. none;
      files = fails.files;
      refused = λ kind key. not_refused seen.files_tell seen.file ready.files_tell words.config kind key ready.config ready.documents ready.notes ready.accepted;
      keeper = λ none. none;
      unfit = λ none. none;
      moment = λ moment none. none;
      source = λ name none. none;
      shrank = λ name kept found none. none;
      numbers = λ none. none;
      sink = either fails.results fails.status;
    })
    does.cause does.unspent usage

explained : (words : Explain) (seen : Observed) → NoneFails seen → text_fault words.text ≡ None → (status : Status) → IsExplain words seen status → ¬ IsUsageStatus status → IsComplete status
explained words seen fails accepted status does usage =
    settled (explaining.causes_of words seen) status
    (record {
      query = λ place kind. no_text_fault words.text place kind accepted;
      files = λ none. none;
      refused = λ kind key none. none;
      keeper = λ none. none;
      unfit = λ none. none;
      moment = λ moment none. none;
      source = λ name none. none;
      shrank = λ name kept found none. none;
      numbers = λ none. none;
      sink = λ cause. fails.results cause.1;
    })
    does.cause does.unspent usage

generated : (words : GenerateWords) (seen : Observed) → NoneFails seen → (status : Status) → IsGenerate words seen status → ¬ IsUsageStatus status → IsComplete status
generated words seen fails status does usage =
    settled (generating.causes_of seen) status
    (record {
      query = λ place kind none. none;
      files = λ none. none;
      refused = λ kind key none. none;
      keeper = λ none. none;
      unfit = λ none. none;
      moment = λ moment none. none;
      source = λ name none. none;
      shrank = λ name kept found none. none;
      numbers = λ none. none;
      sink = fails.results;
    })
    does.cause does.unspent usage

tested : (words : GenerateWords) (seen : Observed) → NoneFails seen → (status : Status) → IsSelfTest words seen status → ¬ IsUsageStatus status → IsComplete status
tested words seen fails status does usage =
    settled (testing.causes_of seen) status
    (record {
      query = λ place kind none. none;
      files = λ none. none;
      refused = λ kind key none. none;
      keeper = λ none. none;
      unfit = λ none. none;
      moment = λ moment none. none;
      source = λ name none. none;
      shrank = λ name kept found none. none;
      numbers = λ none. none;
      sink = fails.results;
    })
    does.cause does.unspent usage

shown : (seen : Observed) → NoneFails seen → IsReportReady seen → (status : Status) → IsShown seen status → ¬ IsUsageStatus status → IsComplete status
shown seen fails ready status does usage =
    settled (reporting.causes_of seen) status
    (record {
      query = λ place kind none. none;
      files = λ none. none;
      refused = λ kind key none. none;
      keeper = fails.keeper;
      unfit = λ cause. (cause ready.keeper_tells).0 ready.legal;
      moment = λ moment none. none;
      source = λ name none. none;
      shrank = λ name kept found none. none;
      numbers = λ none. none;
      sink = fails.results;
    })
    does.cause does.unspent usage

-- a question, or the plan of one
by_explain : (explain : Bool) (words : QueryWords) (seen : Observed) → RunBounds words.start words.step words.ticks words.records words.sources → NoneFails seen → IsAskReady explain words seen → (status : Status) → QueriesBy explain words seen status → ¬ IsUsageStatus status → IsComplete status
by_explain true words seen bounds fails ready status does usage = explained (record { text = words.text }) seen fails ready status does usage
by_explain false words seen bounds fails ready status does usage = asked words seen bounds fails ready status does usage

complete : (command : CommandWords) (seen : Observed) → IsBounded command → NoneFails seen → IsReady command seen → (status : Status) → MeetsCommand command seen status → ¬ IsUsageStatus status → IsComplete status
unfolding IsBounded
complete (AsksReplay words) seen bounds fails ready status does usage = replayed in_turn words seen bounds.0 fails ready status does usage
complete (AsksDaemon words) seen bounds fails ready status does usage = replayed at_once words.run seen bounds.run_in.0 fails ready status does usage
complete (AsksQuery words) seen bounds fails ready status does usage = by_explain words.explain words seen bounds fails ready status does usage
complete (AsksCheck words) seen bounds fails ready status does usage = checked words seen fails ready status does usage
complete (AsksCollect words) seen bounds fails ready status does usage = collected words seen fails ready status does usage
complete (AsksGenerate words) seen bounds fails ready status does usage = generated words seen fails status does usage
complete (AsksSelfTest words) seen bounds fails ready status does usage = tested words seen fails status does usage
complete (AsksReport words) seen bounds fails ready status does usage = shown seen fails ready status does usage
complete (AsksFleet words) seen bounds fails ready status does usage = questioned words seen fails ready status does usage

pub completes : {W : Type 0} (observed : W → W → Observed) → Completes observed
completes observed command old new status bounds does usage fails ready = complete command (observed old new) bounds fails ready status does usage
