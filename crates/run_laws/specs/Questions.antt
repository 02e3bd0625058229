-- What questions to ledgers get of a host.
use Rattle.std.specs.Prelude.{◌≡◌, ℕ, List, ◌++◌}
use Rattle.batch_frames.specs.declared.frame.Frame.{Frame}
use Rattle.collector_ledger.specs.Frames.{AreRecorded}
use Rattle.program_words.specs.declared.command.FleetWords.{FleetWords}
use Rattle.osq_program.specs.declared.status.Status.{Status}
use Rattle.osq_program.specs.declared.status.Status.TheVariants.{Ok as Done, QueryRefused}
use Rattle.osq_program.specs.Fleets.{IsFleet, file_in}
use Rattle.osq_program.specs.Observed.{Observed}

-- The words ask this text of this host, and the objects tell what they hold.
pub record AsksOf (host text : List ℕ) (words : FleetWords) (seen : Observed) : Type 0 where
  pub files_tell : seen.files_tell
  pub sink_tells : seen.sink_tells
  pub host_is : words.host ≡ host
  pub text_is : words.text ≡ text

-- the two files record the same frames of the host
abbrev pub RecordSame : List ℕ → List ℕ → List ℕ → Type 0
RecordSame host file other = (one two : List Frame) → AreRecorded file host one → AreRecorded other host two → one ≡ two

-- Both wrote the same lines, or both refused the text by the same fault; an answer of another kind comes of no frame.
abbrev pub AnswerAlike : Observed → Observed → Status → Status → Type 0
AnswerAlike seen other Done Done = (lines : List ℕ) × (seen.results_after ≡ seen.results_before ++ lines) × (other.results_after ≡ other.results_before ++ lines)
AnswerAlike seen other Done (QueryRefused place kind) = ⊥
AnswerAlike seen other (QueryRefused place kind) Done = ⊥
AnswerAlike seen other (QueryRefused place kind) (QueryRefused at name) = (place ≡ at) × (kind.now ≡ name.now)
AnswerAlike seen other status answer = Unit {0}

-- Two questions of one text to one host, of which two files record the same frames, are answered alike, whatever else the files hold.
abbrev pub QuestionsIsolate : {W : Type 0} → (W → W → Observed) → Type 0
QuestionsIsolate {W} observed =
    (host text : List ℕ) (words others : FleetWords) (old new first last : W) (status answer : Status)
    → AsksOf host text words (observed old new) → AsksOf host text others (observed first last)
    → RecordSame host (file_in words (observed old new)) (file_in others (observed first last))
    → IsFleet words (observed old new) status → IsFleet others (observed first last) answer → AnswerAlike (observed old new) (observed first last) status answer
