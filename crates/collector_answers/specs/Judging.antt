-- What a line is to a collector.
use Rattle.std.specs.Prelude.{◌≡◌, ℕ, ◌<◌, ◌≤◌, ◌^◌, List, [], ◌∷◌, length, Option, Some, None, MatchOption}
use Rattle.batch_frames.specs.declared.error.BadKind.{BadKind}
use Rattle.batch_frames.specs.declared.error.BadKind.TheVariants as fault
use Rattle.batch_frames.specs.declared.frame.Frame.{Frame}
use Rattle.batch_frames.specs.Decodes.{IsBad, IsFrameOf, IsNoFrame, ReadsFrame}
use Rattle.batch_frames.specs.Texts.{IsHeld, digest_of}
use Rattle.collector_answers.specs.declared.answer.BadAnswer.{BadAnswer}
use Rattle.collector_answers.specs.declared.answer.BadAnswer.TheVariants.{TooLong, NotJson, WrongShape, BadDigest, NotCanonical}
use Rattle.collector_answers.specs.declared.judging.Judged.{Judged}
use Rattle.collector_answers.specs.declared.judging.Judged.TheVariants.{Framed, Bad}

-- the most bytes of a frame's line
abbrev pub LIMIT : ℕ
LIMIT = 2 ^ 30

-- what is wrong with a line that isn't too long
abbrev pub bad_kind : BadAnswer → Option BadKind
bad_kind TooLong = None
bad_kind NotJson = Some fault.NotJson
bad_kind WrongShape = Some fault.WrongShape
bad_kind BadDigest = Some fault.BadDigest
bad_kind NotCanonical = Some fault.NotCanonical

-- the text of a valid frame with this digest, which can be held; or too long; or the text of no valid frame, by the first that is wrong with it
abbrev pub IsJudged : List ℕ → Judged → Type 0
IsJudged line (Framed frame digest) = (length line ≤ LIMIT) × IsFrameOf line frame × (digest ≡ digest_of frame) × IsHeld frame
IsJudged line (Bad kind) = MatchOption (bad_kind kind) (LIMIT < length line) (λ k. (length line ≤ LIMIT) × IsNoFrame line × IsBad line k)

-- no other frame that can be held has this text
abbrev pub IsAlone : List ℕ → Judged → Type 0
IsAlone line (Framed frame digest) = ReadsFrame line frame
IsAlone line (Bad kind) = Unit {0}

-- each line is that to a collector
abbrev pub AreJudged : List (List ℕ) → List Judged → Type 0
AreJudged [] [] = Unit {0}
AreJudged [] (judged ∷ others) = ⊥
AreJudged (line ∷ lines) [] = ⊥
AreJudged (line ∷ lines) (judged ∷ others) = IsJudged line judged × AreJudged lines others

-- the frames among the lines
abbrev pub frames_of : List Judged → List Frame
frames_of [] = []
frames_of (Framed frame digest ∷ others) = frame ∷ frames_of others
frames_of (Bad kind ∷ others) = frames_of others
