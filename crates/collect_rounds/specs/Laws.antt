-- What holds of collectors, whatever lines come.
use Rattle.std.specs.Prelude.{◌≡◌, ℕ, bytes_eq, List, [], ◌∷◌, ◌++◌, if◌then◌else◌}
use Rattle.collector_core.specs.Laws.{frames_of as frames_of_host}
use Rattle.collector_core.specs.Received.{HostDigests, received}
use Rattle.collector_answers.specs.declared.answer.Answer.{Answer}
use Rattle.collector_answers.specs.declared.judging.Judged.{Judged}
use Rattle.collector_answers.specs.declared.judging.Judged.TheVariants.{Framed, Bad}
use Rattle.collector_answers.specs.Judging.{AreJudged, frames_of}
use Rattle.record_lines.specs.Lines.{lines_of}
use Rattle.collector_ledger.specs.Files.{IsLedgerOf, has_rest}
use Rattle.collect_rounds.specs.Collecting.{added_lines, after_lines, answer_to, behind_rest}

-- of the whole lines of a stream: the ledger of the file with what was added to it is the one that the collector has
abbrev pub Reopens : Type 0
Reopens = (file given : List ℕ) (recorded : HostDigests) (judged : List Judged) → IsLedgerOf file recorded → AreJudged (lines_of given) judged
    → IsLedgerOf (file ++ behind_rest (has_rest file) (added_lines recorded judged)) (after_lines recorded judged)

-- the answers to a host's frames
abbrev pub answers_for : List ℕ → HostDigests → List Judged → List Answer
answers_for host recorded [] = []
answers_for host recorded (Framed frame digest ∷ others) =
    if bytes_eq frame.host host then answer_to recorded frame ∷ answers_for host (received recorded frame) others
    else answers_for host (received recorded frame) others
answers_for host recorded (Bad kind ∷ others) = answers_for host recorded others

-- what is recorded of a host and answered to it hangs on what was recorded of it before and on its own frames alone
abbrev pub Isolation : Type 0
Isolation = (host : List ℕ) (one other : HostDigests) (judged others : List Judged) → one host ≡ other host
    → frames_of_host host (frames_of judged) ≡ frames_of_host host (frames_of others)
    → (after_lines one judged host ≡ after_lines other others host) × (answers_for host one judged ≡ answers_for host other others)
