-- What lines add to a collector's ledger, and what is answered to them.
use Rattle.std.specs.Prelude.{ℕ, ◌+◌, ◌==◌, Bool, if◌then◌else◌, List, [], ◌∷◌, ◌++◌, length}
use Rattle.batch_frames.specs.declared.frame.Frame.{Frame}
use Rattle.batch_frames.specs.Texts.{digest_of, text_of}
use Rattle.collector_core.specs.declared.receipt.Receipt.{Receipt}
use Rattle.collector_core.specs.declared.receipt.Receipt.TheVariants as receipt
use Rattle.collector_core.specs.Received.{HostDigests, received}
use Rattle.collector_core.specs.Receipts.{receipt_of}
use Rattle.collector_answers.specs.declared.answer.Answer.{Answer}
use Rattle.collector_answers.specs.declared.answer.Answer.TheVariants as answer
use Rattle.collector_answers.specs.declared.judging.Judged.{Judged}
use Rattle.collector_answers.specs.declared.judging.Judged.TheVariants.{Framed, Bad}
use Rattle.collector_answers.specs.Lines.{line_of}

-- what is answered to a frame with this receipt, where so many frames of its host are recorded behind it
abbrev pub answer_by : List ℕ → ℕ → ℕ → Receipt → Answer
answer_by host number recorded receipt.Recorded = answer.Recorded host number recorded
answer_by host number recorded receipt.Repeat = answer.Repeat host number recorded
answer_by host number recorded (receipt.Gap behind) = answer.Gap host number recorded
answer_by host number recorded (receipt.Conflict at kept found) = answer.Conflict host number recorded kept found

abbrev pub receipt_in : HostDigests → Frame → Receipt
receipt_in recorded frame = receipt_of (recorded frame.host) frame.batch.number (digest_of frame)

-- the answer to a frame
abbrev pub answer_to : HostDigests → Frame → Answer
answer_to recorded frame = answer_by frame.host frame.batch.number (length (received recorded frame frame.host)) (receipt_in recorded frame)

-- a frame is recorded where its number is the next one of its host
abbrev pub is_recorded : HostDigests → Frame → Bool
is_recorded recorded frame = frame.batch.number == length (recorded frame.host) + 1

-- what is recorded behind a line
abbrev pub after_line : HostDigests → Judged → HostDigests
after_line recorded (Framed frame digest) = received recorded frame
after_line recorded (Bad kind) = recorded

abbrev pub answer_in : HostDigests → Judged → Answer
answer_in recorded (Framed frame digest) = answer_to recorded frame
answer_in recorded (Bad kind) = answer.Bad kind

-- what a line adds to the ledger's file: itself, where it is a frame that is recorded
abbrev pub added_by : HostDigests → Judged → List ℕ
added_by recorded (Framed frame digest) = if is_recorded recorded frame then text_of frame ++ 10 ∷ [] else []
added_by recorded (Bad kind) = []

-- the same of lines, one after another
abbrev pub after_lines : HostDigests → List Judged → HostDigests
after_lines recorded [] = recorded
after_lines recorded (judged ∷ others) = after_lines (after_line recorded judged) others

-- the answers, each with a line feed
abbrev pub answers_to : HostDigests → List Judged → List ℕ
answers_to recorded [] = []
answers_to recorded (judged ∷ others) = (line_of (answer_in recorded judged) ++ 10 ∷ []) ++ answers_to (after_line recorded judged) others

abbrev pub added_lines : HostDigests → List Judged → List ℕ
added_lines recorded [] = []
added_lines recorded (judged ∷ others) = added_by recorded judged ++ added_lines (after_line recorded judged) others

-- behind a file that ends without a line feed, the first line that is added has one before it
abbrev pub behind_rest : Bool → List ℕ → List ℕ
behind_rest has_rest [] = []
behind_rest has_rest (byte ∷ bytes) = if has_rest then 10 ∷ byte ∷ bytes else byte ∷ bytes
