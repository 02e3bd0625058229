-- What a run of a collector leaves.
use Rattle.std.specs.Prelude.{◌≡◌, ℕ, ◌+◌, ◌*◌, ◌≤◌, ◌<◌, ◌^◌, Bool, true, false, List, [], ◌++◌, length, take, Result, Ok, Err}
use Rattle.record_lines.specs.Limits.{PIECE_BYTES, STEP_BYTES}
use Rattle.record_lines.specs.Lines.{lines_of}
use Rattle.collector_core.specs.Received.{HostDigests}
use Rattle.collector_answers.specs.declared.judging.Judged.{Judged}
use Rattle.collector_answers.specs.Judging.{AreJudged}
use Rattle.collect_rounds.specs.Collecting.{added_lines, after_lines, answers_to, behind_rest}

-- a round ends once it has read the bytes of a step, and so reads at most so many
abbrev pub ROUND_BYTES : ℕ
ROUND_BYTES = STEP_BYTES + PIECE_BYTES

-- two streams of bytes that a collector writes
pub record Written : Type 0 where
  pub ledger : List ℕ
  pub answers : List ℕ

-- Each whole line of the bytes given was judged. The ledger's file has grown by exactly the lines of the frames that were recorded, and the
-- answers by one for each line.
pub record HasCollected (recorded : HostDigests) (has_rest : Bool) (given : List ℕ) (before after : Written) : Type 0 where
  pub judged : List Judged
  pub lines : AreJudged (lines_of given) judged
  pub ledger : after.ledger ≡ before.ledger ++ behind_rest has_rest (added_lines recorded judged)
  pub answers : after.answers ≡ before.answers ++ answers_to recorded judged

-- A front part of the whole lines given was judged: those that are done, and some that are at work. The ledger's file has grown by a front
-- part of what they add, behind all that the lines done add; the answers likewise. No answer to a line at work was begun before the ledger's
-- file has all that these lines add.
pub record HasStopped (recorded : HostDigests) (has_rest : Bool) (given : List ℕ) (before after : Written) : Type 0 where
  pub done : List Judged
  pub works : List Judged
  pub lines : List (List ℕ)
  pub others : List (List ℕ)
  pub are : lines_of given ≡ lines ++ others
  pub judged : AreJudged lines (done ++ works)
  pub all : List ℕ
  pub all_is : all ≡ behind_rest has_rest (added_lines recorded (done ++ works))
  pub added : ℕ
  pub enough : length (behind_rest has_rest (added_lines recorded done)) ≤ added
  pub ledger : after.ledger ≡ before.ledger ++ take added all
  pub answered : ℕ
  pub answers : after.answers ≡ before.answers ++ answers_to recorded done ++ take answered (answers_to (after_lines recorded done) works)
  pub ordered : 0 < answered → length all ≤ added

-- Where the objects tell: at Ok the run collected all that the source gave, which is all it had where it is at its end, and else so many
-- rounds' bytes at least, and in either case no more than so many rounds read at most; at a refusal it stopped on the way.
abbrev pub Runs : {E : Type 0} → HostDigests → Bool → List ℕ → List ℕ → ℕ → Written → Written → Result Bool E → Type 0
Runs recorded has_rest left rest rounds before after (Ok true) = (rest ≡ []) × (length left ≤ rounds * ROUND_BYTES) × HasCollected recorded has_rest left before after
Runs recorded has_rest left rest rounds before after (Ok false) =
    (given : List ℕ) × (left ≡ given ++ rest) × (rounds * STEP_BYTES ≤ length given) × (length given ≤ rounds * ROUND_BYTES) × HasCollected recorded has_rest given before after
Runs recorded has_rest left rest rounds before after (Err error) =
    (given : List ℕ) × (left ≡ given ++ rest) × HasStopped recorded has_rest given before after
