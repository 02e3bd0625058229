-- Lines at a collector.
use Rattle.std.specs.Prelude.{◌≡◌, ℕ, Bool, false, List, [], ◌∷◌, ◌++◌}
use Rattle.record_lines.specs.Cutting.{HasCut}
use Rattle.record_lines.specs.Lines.{lines_of, rest_of}
use Rattle.collector_core.specs.declared.receipt.Receipt.{Receipt}
use Rattle.collector_core.specs.declared.receipt.Receipt.TheVariants.{Recorded, Repeat, Gap, Conflict}
use Rattle.collector_core.specs.Ledgers.{digests_of}
use Rattle.collector_core.specs.Received.{HostDigests}
use Rattle.collector_answers.specs.declared.judging.Judged.{Judged}
use Rattle.collector_answers.specs.Judging.{AreJudged, IsJudged, LIMIT}
use Rattle.collect_rounds.specs.declared.collector.Collector.{Collector}
use Rattle.collect_rounds.specs.Collecting.{added_lines, after_lines, answers_to, behind_rest}

-- what a frame with this receipt, whose line this is, adds to the file
abbrev pub line_by : Receipt → List ℕ → List ℕ
line_by Recorded line = line ++ 10 ∷ []
line_by Repeat line = []
line_by (Gap recorded) line = []
line_by (Conflict number kept found) line = []

-- what is recorded, whether the file ends without a line feed, and what is to be written
pub record Standing : Type 0 where
  pub recorded : HostDigests
  pub has_rest : Bool
  pub added : List ℕ
  pub answers : List ℕ

abbrev pub standing_of : Collector → Standing
standing_of collector = record { recorded = digests_of collector.ledger; has_rest = collector.has_rest; added = collector.added; answers = collector.answers }

-- the file ends with a line feed once something was added
abbrev pub rest_after : Bool → List ℕ → Bool
rest_after has_rest [] = has_rest
rest_after has_rest (byte ∷ bytes) = false

-- lines were taken
pub record TakesJudged (before : Standing) (judged : List Judged) (after : Standing) : Type 0 where
  pub recorded : (host : List ℕ) → after.recorded host ≡ after_lines before.recorded judged host
  pub rest : after.has_rest ≡ rest_after before.has_rest (added_lines before.recorded judged)
  pub added : after.added ≡ before.added ++ behind_rest before.has_rest (added_lines before.recorded judged)
  pub answers : after.answers ≡ before.answers ++ answers_to before.recorded judged

pub record TakesLine (before : Standing) (line : List ℕ) (after : Standing) : Type 0 where
  pub judged : Judged
  pub is : IsJudged line judged
  pub takes : TakesJudged before (judged ∷ []) after

-- the lines that end in a piece behind a begun line were taken; nothing else is to be written
pub record TakesPiece (before : Collector) (begun piece : List ℕ) (after : Collector) : Type 0 where
  pub judged : List Judged
  pub lines : AreJudged (lines_of (begun ++ piece)) judged
  pub takes : TakesJudged (record (standing_of before) { added = []; answers = [] }) judged (standing_of after)
  pub start : ℕ
  pub limit : after.cutter.limit ≡ LIMIT
  pub stands : HasCut after.cutter start (rest_of (begun ++ piece))
