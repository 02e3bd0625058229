-- The laws of what hosts send and of what a collector records.
use Rattle.std.specs.Prelude.{◌≡◌, ℕ, List, ◌∷◌, ◌++◌, length, Option}
use Rattle.std.specs.List.{AllByRecursion}
use Rattle.entry_model.specs.declared.entry.Entry.{Entry}
use Rattle.entry_model.specs.Legal.{Legal}
use Rattle.entry_model.specs.Values.{commits}
use Rattle.session_model.specs.Working.{acks_of}
use Rattle.batch_frames.specs.declared.frame.Frame.{Frame}
use Rattle.batch_frames.specs.Decodes.{IsFrameOf as IsTextOf}
use Rattle.batch_frames.specs.Texts.{digest_of, text_of}
use Rattle.batch_forwarder.specs.Polling.{AreMarks}
use Rattle.collector_core.specs.Received.{HostDigests, all_received, none_recorded}
use Rattle.collector_answers.specs.declared.judging.Judged.{Judged}
use Rattle.collector_answers.specs.Judging.{AreJudged}
use Rattle.collector_ledger.specs.Files.{IsLedgerOf, file_lines}
use Rattle.collect_rounds.specs.Collecting.{after_lines}
use Rattle.collect_rounds.specs.Laws.{answers_for}
use Rattle.world_laws.specs.Answered.{AcksWithin, WasAnswered}
use Rattle.world_laws.specs.Lines.{AreLinesOf, BeginsText}
use Rattle.world_laws.specs.Prefixes.{IsPrefix}
use Rattle.world_laws.specs.Sent.{AreSent, ComeFrom, WereSent}

-- Whatever frames come, in any order, some lost and some more than once, of which those of a host are of batches of its legal list: what is recorded
-- of the host is a prefix of its batches.
abbrev pub LedgerIsPrefix : Type 0
LedgerIsPrefix =
    (host : List ℕ) (entries : List Entry) (frames : List Frame) → Legal entries → AreSent host (commits entries) frames
    → IsPrefix host (commits entries) (all_received none_recorded frames host)

-- the same of the lines that a collector judges
abbrev pub LinesArePrefix : Type 0
LinesArePrefix =
    (host : List ℕ) (entries : List Entry) (lines : List (List ℕ)) (judged : List Judged) → Legal entries → WereSent host entries lines → AreJudged lines judged
    → IsPrefix host (commits entries) (after_lines none_recorded judged host)

-- a prefix stays one when the host's list grows and more lines come, whether they were sent before that or behind it
abbrev pub StillPrefix : Type 0
StillPrefix =
    (host : List ℕ) (before after : List Entry) (recorded : HostDigests) (lines : List (List ℕ)) (judged : List Judged) → Legal (before ++ after)
    → IsPrefix host (commits before) (recorded host) → WereSent host (before ++ after) lines → AreJudged lines judged
    → IsPrefix host (commits (before ++ after)) (after_lines recorded judged host)

-- the same of a ledger's file, as it is opened again
abbrev pub FileIsPrefix : Type 0
FileIsPrefix =
    (host : List ℕ) (entries : List Entry) (file : List ℕ) (recorded : HostDigests) → Legal entries → WereSent host entries (file_lines file) → IsLedgerOf file recorded
    → IsPrefix host (commits entries) (recorded host)

-- a line that is the text of two frames tells the same host, number and digest of both
pub record TellSame (one other : Frame) : Type 0 where
  pub host : one.host ≡ other.host
  pub number : one.batch.number ≡ other.batch.number
  pub digest : digest_of one ≡ digest_of other

abbrev pub TextsTell : Type 0
TextsTell = (line : List ℕ) (one other : Frame) → IsTextOf line one → IsTextOf line other → TellSame one other

-- of many hosts, each of which sends frames of its own batches alone, each has a prefix
abbrev pub HostsArePrefixes : Type 0
HostsArePrefixes =
    (kept : List ℕ → List Entry) (lines : List (List ℕ)) (judged : List Judged) → ((host : List ℕ) → Legal (kept host)) → ComeFrom kept lines → AreJudged lines judged
    → (host : List ℕ) → IsPrefix host (commits (kept host)) (after_lines none_recorded judged host)

-- no acknowledgement of a host passes what is recorded of it, where each answer that it polled is the collector's
abbrev pub MarksAreRecorded : Type 0
MarksAreRecorded =
    (host : List ℕ) (entries : List Entry) (recorded : HostDigests) (judged : List Judged) (lines : List (List ℕ)) (polled : List (Option ℕ))
    → AllByRecursion (WasAnswered recorded judged) lines → AreMarks host lines polled
    → AllByRecursion (AcksWithin (length (after_lines recorded judged host))) (acks_of entries polled)

-- no text of a frame begins another
abbrev pub NoneBegins : Type 0
NoneBegins = (one other : Frame) (byte : ℕ) (behind : List ℕ) → text_of one ++ byte ∷ behind ≡ text_of other → ⊥

-- A file whose lines are texts of frames, or begin such texts, and that is cut anywhere, has of each host the first of the digests that it had.
abbrev pub Torn : Type 0
Torn =
    (file behind : List ℕ) (some all : HostDigests) → AllByRecursion BeginsText (file_lines (file ++ behind)) → IsLedgerOf file some → IsLedgerOf (file ++ behind) all
    → (host : List ℕ) → (added : List (List ℕ)) × (all host ≡ some host ++ added)

-- What is recorded of a host and answered to it hangs on what was recorded of it before and on its own lines, in their order. The answer to a bad line names
-- no host, and is none of these.
abbrev pub LinesIsolate : Type 0
LinesIsolate =
    (host : List ℕ) (one other : HostDigests) (lines others mine : List (List ℕ)) (judged judged_others : List Judged) → one host ≡ other host
    → AreLinesOf host lines mine → AreLinesOf host others mine → AreJudged lines judged → AreJudged others judged_others
    → (after_lines one judged host ≡ after_lines other judged_others host) × (answers_for host one judged ≡ answers_for host other judged_others)
