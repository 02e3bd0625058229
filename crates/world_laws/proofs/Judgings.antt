-- A line that is judged twice tells the same both times.
use Rattle.std.proofs.Common.{◌≡◌, ◌∙◌, ℕ, List, [], ◌∷◌, bytes_eq, ap, arith}
use Rattle.std.specs.Prelude.{if◌then◌else◌}
use Rattle.batch_frames.specs.declared.frame.Frame.{Frame}
use Rattle.batch_frames.specs.Texts.{digest_of}
use Rattle.collector_core.specs.Receipts.{kept_after}
use Rattle.collector_core.specs.Received.{HostDigests, received}
use Rattle.collector_answers.specs.declared.answer.BadAnswer.{BadAnswer}
use Rattle.collector_answers.specs.declared.answer.BadAnswer.TheVariants.{TooLong, NotJson, WrongShape, BadDigest, NotCanonical}
use Rattle.collector_answers.specs.declared.judging.Judged.{Judged}
use Rattle.collector_answers.specs.declared.judging.Judged.TheVariants.{Bad, Framed}
use Rattle.collector_answers.specs.Judging.{AreJudged, IsJudged}
use Rattle.world_laws.specs.Laws.{TellSame}
use Rattle.world_laws.proofs.Texts.{texts_tell}

-- both are frames that tell the same, or both are bad
abbrev pub Alike : Judged → Judged → Type 0
Alike (Framed frame digest) (Framed other shown) = TellSame frame other
Alike (Framed frame digest) (Bad kind) = ⊥
Alike (Bad kind) (Framed frame digest) = ⊥
Alike (Bad kind) (Bad other) = Unit {0}

abbrev pub AllAlike : List Judged → List Judged → Type 0
AllAlike [] [] = Unit {0}
AllAlike [] (other ∷ others) = ⊥
AllAlike (one ∷ judged) [] = ⊥
AllAlike (one ∷ judged) (other ∷ others) = Alike one other × AllAlike judged others

-- the text of a frame isn't bad
never_bad : (line : List ℕ) (frame : Frame) (digest : List ℕ) (kind : BadAnswer) → IsJudged line (Framed frame digest) → IsJudged line (Bad kind) → ⊥
never_bad line frame digest TooLong is bad = let small = is.0 in omega (arith, small, bad)
never_bad line frame digest NotJson is bad = bad.1 frame is.3 is.1
never_bad line frame digest WrongShape is bad = bad.1 frame is.3 is.1
never_bad line frame digest BadDigest is bad = bad.1 frame is.3 is.1
never_bad line frame digest NotCanonical is bad = bad.1 frame is.3 is.1

alike : (line : List ℕ) (one other : Judged) → IsJudged line one → IsJudged line other → Alike one other
alike line (Framed frame digest) (Framed other shown) first second = texts_tell line frame other first.1 second.1
alike line (Framed frame digest) (Bad kind) first second = never_bad line frame digest kind first second
alike line (Bad kind) (Framed frame digest) first second = never_bad line frame digest kind second first
alike line (Bad kind) (Bad other) first second = tt

pub all_alike : (lines : List (List ℕ)) (judged others : List Judged) → AreJudged lines judged → AreJudged lines others → AllAlike judged others
all_alike [] [] [] are also = tt
all_alike [] [] (other ∷ others) are also = absurd also
all_alike [] (one ∷ judged) others are also = absurd are
all_alike (line ∷ lines) [] others are also = absurd are
all_alike (line ∷ lines) (one ∷ judged) [] are also = absurd also
all_alike (line ∷ lines) (one ∷ judged) (other ∷ others) are also = (alike line one other are.0 also.0, all_alike lines judged others are.1 also.1)

-- frames that tell the same leave the same of a host of which the same was recorded
pub received_same : (host : List ℕ) (one other : HostDigests) (frame next : Frame) → one host ≡ other host → TellSame frame next → received one frame host ≡ received other next host
received_same host one other frame next same tell =
    ap (λ (digests : List (List ℕ)). if bytes_eq frame.host host then kept_after digests frame.batch.number (digest_of frame) else digests) same
    ∙ ap (λ (sender : List ℕ). if bytes_eq sender host then kept_after (other host) frame.batch.number (digest_of frame) else other host) tell.host
    ∙ ap (λ (number : ℕ). if bytes_eq next.host host then kept_after (other host) number (digest_of frame) else other host) tell.number
    ∙ ap (λ (digest : List ℕ). if bytes_eq next.host host then kept_after (other host) next.batch.number digest else other host) tell.digest
