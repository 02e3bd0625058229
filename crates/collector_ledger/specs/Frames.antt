-- The frames of a host that a file records.
use Rattle.std.specs.Prelude.{◌≡◌, ℕ, List, [], ◌∷◌, ◌++◌, Option, unwrap_or}
use Rattle.batch_frames.specs.declared.frame.Frame.{Frame}
use Rattle.collector_core.specs.Received.{recorded_from}
use Rattle.collector_answers.specs.declared.judging.Judged.{Judged}
use Rattle.collector_answers.specs.Judging.{AreJudged, IsAlone, IsJudged, frames_of}
use Rattle.collector_ledger.specs.Files.{file_lines}

-- each line is the text of no other frame
abbrev pub AreAlone : List (List ℕ) → List Judged → Type 0
AreAlone [] judged = Unit {0}
AreAlone (line ∷ lines) [] = Unit {0}
AreAlone (line ∷ lines) (judged ∷ others) = IsAlone line judged × AreAlone lines others

-- of the frames that the file's lines are those of the host that are recorded, in their order
pub record AreRecorded (file host : List ℕ) (frames : List Frame) : Type 0 where
  pub judged : List Judged
  pub lines : AreJudged (file_lines file) judged
  pub alone : AreAlone (file_lines file) judged
  pub are : frames ≡ recorded_from 0 host (frames_of judged)

-- those of a path's file; that of no file is the empty one
abbrev pub AreOpened : Option (List ℕ) → List ℕ → List Frame → Type 0
AreOpened found host frames = AreRecorded (unwrap_or found []) host frames

-- one line more is taken
pub record TakesFrame (host : List ℕ) (before : List Frame) (line : List ℕ) (after : List Frame) (count : ℕ) : Type 0 where
  pub judged : Judged
  pub is : IsJudged line judged
  pub alone : IsAlone line judged
  pub after_is : after ≡ before ++ recorded_from count host (frames_of (judged ∷ []))

-- a file records one list of frames of a host
abbrev pub OneRecord : Type 0
OneRecord = (file host : List ℕ) (one other : List Frame) → AreRecorded file host one → AreRecorded file host other → one ≡ other
