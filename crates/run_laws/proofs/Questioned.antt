-- What a question gets hangs on the frames of its host.
use Rattle.std.proofs.Common.{◌≡◌, ◌∙◌, ℕ, List, ◌++◌, Some, ap, sym, subst}
use Rattle.batch_frames.specs.declared.frame.Frame.{Frame}
use Rattle.collector_ledger.specs.Frames.{AreRecorded}
use Rattle.fleet_query.specs.Tables.{fleet_derived, fleet_view}
use Rattle.program_words.specs.declared.command.FleetWords.{FleetWords}
use Rattle.sql_meaning.specs.Meaning.{meaning_of}
use Rattle.sql_query.specs.Answers.{result_names}
use Rattle.sql_query.specs.Resolved.{QueryTree}
use Rattle.sql_texts.specs.declared.text.TextError.{TextError}
use Rattle.sql_texts.specs.TextFaults.{name_of_fault, place_of_fault}
use Rattle.osq_program.specs.declared.status.Status.{Status}
use Rattle.osq_program.specs.declared.status.Status.TheVariants.{Ok as Done, Usage, FilesFault, ConfigRefused, KeeperFault, KeeperRefused, MomentTooLarge, SourceFault, SourceShrank, NumbersSpent, SinkFault, TicksSpent, QueryRefused, OutOfMemory}
use Rattle.osq_program.specs.Answers.{IsUsageStatus}
use Rattle.osq_program.specs.Fleets.{IsFleet, IsRefusedFrom, ShowsRows, causes_of, file_in}
use Rattle.osq_program.specs.Observed.{Observed}
use Rattle.osq_program.specs.Querying.{IsRefusedOver, row_lines}
use Rattle.run_laws.specs.Completeness.{IsComplete}
use Rattle.run_laws.specs.Questions.{AnswerAlike, AsksOf, QuestionsIsolate, RecordSame}
use Rattle.run_laws.specs.Ready.{IsFleetReady, NoneFails}
use Rattle.run_laws.proofs.Accepted.{none_some, some_same}
use Rattle.run_laws.proofs.Settled.{settled}

-- ---- completeness
pub questioned : (words : FleetWords) (seen : Observed) → NoneFails seen → IsFleetReady words seen → (status : Status) → IsFleet words seen status → ¬ IsUsageStatus status → IsComplete status
questioned words seen fails ready status does usage =
    settled (causes_of words seen) status
    (record {
      query = λ place kind cause. accepted place kind cause;
      files = fails.files;
      refused = λ kind key none. none;
      keeper = λ none. none;
      unfit = λ none. none;
      moment = λ moment none. none;
      source = λ name none. none;
      shrank = λ name kept found none. none;
      numbers = λ none. none;
      sink = λ cause. fails.results cause.2;
    })
    does.cause does.unspent usage
  where
    accepted : (place : ℕ) (kind : List ℕ) → IsRefusedFrom words seen place kind → ⊥
    accepted place kind (frames, are, (fault, some, at, named)) = none_some (ready.accepted frames (are ready.files_tell)) some

-- ---- one text over the same frames
same_lines : (frames : List Frame) (text lines others : List ℕ) → ShowsRows frames text lines → ShowsRows frames text others → lines ≡ others
same_lines frames text lines others one two =
    one.are ∙ ap (λ (query : QueryTree). row_lines (result_names query) (meaning_of query (fleet_view frames))) (some_same (sym one.read ∙ two.read)) ∙ sym two.are

shown_not_refused : (frames : List Frame) (text lines : List ℕ) (place : ℕ) (kind : List ℕ) → ShowsRows frames text lines → IsRefusedOver (fleet_derived frames) text place kind → ⊥
shown_not_refused frames text lines place kind shows (fault, some, at, named) = none_some shows.accepted some

same_fault : (frames : List Frame) (text : List ℕ) (place at : ℕ) (kind name : List ℕ) → IsRefusedOver (fleet_derived frames) text place kind → IsRefusedOver (fleet_derived frames) text at name → (place ≡ at) × (kind ≡ name)
same_fault frames text place at kind name (fault, some, there, named) (other, also, here, called) =
    let same : fault ≡ other = some_same (sym some ∙ also) in
    (there ∙ ap place_of_fault same ∙ sym here, named ∙ ap name_of_fault same ∙ sym called)

-- the lines of an answer, and a refusal, are over frames of the host that the file records
record Answered (host text : List ℕ) (words : FleetWords) (seen : Observed) (lines : List ℕ) : Type 0 where
  frames : List Frame
  recorded : AreRecorded (file_in words seen) host frames
  shows : ShowsRows frames text lines
  grown : seen.results_after ≡ seen.results_before ++ lines

record Refused (host text : List ℕ) (words : FleetWords) (seen : Observed) (place : ℕ) (kind : List ℕ) : Type 0 where
  frames : List Frame
  recorded : AreRecorded (file_in words seen) host frames
  refused : IsRefusedOver (fleet_derived frames) text place kind

module _ (host text : List ℕ) where
  of_host : (words : FleetWords) (seen : Observed) → AsksOf host text words seen → (frames : List Frame) → AreRecorded (file_in words seen) words.host frames → AreRecorded (file_in words seen) host frames
  of_host words seen asks frames are = subst (λ (h : List ℕ). AreRecorded (file_in words seen) h frames) asks.host_is are

  done_by : (words : FleetWords) (seen : Observed) → AsksOf host text words seen → IsFleet words seen Done → (lines : List ℕ) × Answered host text words seen lines
  done_by words seen asks does =
      let (lines, has, grown) = does.leaves in (
        lines,
        record {
          frames = has.frames;
          recorded = of_host words seen asks has.frames (has.are asks.files_tell);
          shows = subst (λ (t : List ℕ). ShowsRows has.frames t lines) asks.text_is has.shows;
          grown = grown asks.sink_tells;
        },
      )

  refused_by : (words : FleetWords) (seen : Observed) (place : ℕ) (kind : List ℕ) → AsksOf host text words seen → IsRefusedFrom words seen place kind → Refused host text words seen place kind
  refused_by words seen place kind asks (frames, are, refused) = record {
    frames = frames;
    recorded = of_host words seen asks frames (are asks.files_tell);
    refused = subst (λ (t : List ℕ). IsRefusedOver (fleet_derived frames) t place kind) asks.text_is refused;
  }

  module _ (words others : FleetWords) (seen other : Observed) (asks : AsksOf host text words seen) (also : AsksOf host text others other) (same : RecordSame host (file_in words seen) (file_in others other)) where
    alike : (status answer : Status) → IsFleet words seen status → IsFleet others other answer → AnswerAlike seen other status answer
    alike Done Done one two =
        let (lines, mine) = done_by words seen asks one in
        let (its, theirs) = done_by others other also two in
        let is = same mine.frames theirs.frames mine.recorded theirs.recorded in
        let shows : ShowsRows theirs.frames text lines = subst (λ (frames : List Frame). ShowsRows frames text lines) is mine.shows in
        (lines, mine.grown, theirs.grown ∙ ap (λ (l : List ℕ). other.results_before ++ l) (same_lines theirs.frames text its lines theirs.shows shows))
    alike Done (QueryRefused place kind) one two =
        let (lines, mine) = done_by words seen asks one in
        let theirs = refused_by others other place kind.now also (two.cause tt) in
        let is = same mine.frames theirs.frames mine.recorded theirs.recorded in
        let shows : ShowsRows theirs.frames text lines = subst (λ (frames : List Frame). ShowsRows frames text lines) is mine.shows in
        shown_not_refused theirs.frames text lines place kind.now shows theirs.refused
    alike (QueryRefused place kind) Done one two =
        let mine = refused_by words seen place kind.now asks (one.cause tt) in
        let (lines, theirs) = done_by others other also two in
        let is = same mine.frames theirs.frames mine.recorded theirs.recorded in
        let refused : IsRefusedOver (fleet_derived theirs.frames) text place kind.now = subst (λ (frames : List Frame). IsRefusedOver (fleet_derived frames) text place kind.now) is mine.refused in
        shown_not_refused theirs.frames text lines place kind.now theirs.shows refused
    alike (QueryRefused place kind) (QueryRefused at name) one two =
        let mine = refused_by words seen place kind.now asks (one.cause tt) in
        let theirs = refused_by others other at name.now also (two.cause tt) in
        let is = same mine.frames theirs.frames mine.recorded theirs.recorded in
        let refused : IsRefusedOver (fleet_derived theirs.frames) text place kind.now = subst (λ (frames : List Frame). IsRefusedOver (fleet_derived frames) text place kind.now) is mine.refused in
        same_fault theirs.frames text place at kind.now name.now refused theirs.refused
    alike _ _ one two = tt

pub questions_isolate : {W : Type 0} (observed : W → W → Observed) → QuestionsIsolate observed
questions_isolate observed host text words others old new first last status answer asks also same one two =
    alike host text words others (observed old new) (observed first last) asks also same status answer one two
