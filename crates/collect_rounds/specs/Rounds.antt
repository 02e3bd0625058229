-- Where a collector stands between two pieces of its stream.
use Rattle.std.specs.Prelude.{◌≡◌, ℕ, ◌≤◌, Bool, true, false, List, [], ◌++◌, length, Result, Ok, Err}
use Rattle.record_lines.specs.Cutting.{HasCut}
use Rattle.record_lines.specs.Lines.{lines_of, rest_of}
use Rattle.collector_core.specs.Ledgers.{digests_of}
use Rattle.collector_core.specs.Received.{HostDigests}
use Rattle.collector_answers.specs.declared.judging.Judged.{Judged}
use Rattle.collector_answers.specs.Judging.{AreJudged, LIMIT}
use Rattle.collect_rounds.specs.declared.collector.Collector.{Collector}
use Rattle.collect_rounds.specs.Collecting.{added_lines, after_lines, answers_to, behind_rest}
use Rattle.record_lines.specs.Limits.{STEP_BYTES}
use Rattle.collect_rounds.specs.Runs.{HasStopped, ROUND_BYTES, Written}
use Rattle.collect_rounds.specs.Takes.{rest_after}

-- The whole lines of what was given are written and answered, and the cutter has the line that was begun.
pub record IsAt (recorded : HostDigests) (has_rest : Bool) (given : List ℕ) (before now : Written) (collector : Collector) : Type 0 where
  pub judged : List Judged
  pub lines : AreJudged (lines_of given) judged
  pub recorded_is : (host : List ℕ) → digests_of collector.ledger host ≡ after_lines recorded judged host
  pub rest_is : collector.has_rest ≡ rest_after has_rest (added_lines recorded judged)
  pub ledger : now.ledger ≡ before.ledger ++ behind_rest has_rest (added_lines recorded judged)
  pub answers : now.answers ≡ before.answers ++ answers_to recorded judged
  pub limit : collector.cutter.limit ≡ LIMIT
  pub start : ℕ
  pub stands : HasCut collector.cutter start (rest_of given)

-- a piece was given behind that
abbrev pub TakesNext : {E : Type 0} → HostDigests → Bool → List ℕ → Written → Written → Collector → Result (Unit {0}) E → Type 0
TakesNext recorded has_rest given before now collector (Ok done) = IsAt recorded has_rest given before now collector
TakesNext recorded has_rest given before now collector (Err error) = HasStopped recorded has_rest given before now

-- a round is at its end with the source's, or once it has its bytes
abbrev pub IsRound : Bool → List ℕ → List ℕ → Type 0
IsRound true more rest = rest ≡ []
IsRound false more rest = STEP_BYTES ≤ length more

-- a round was run from there on
abbrev pub TakesRound : {E : Type 0} → HostDigests → Bool → List ℕ → List ℕ → List ℕ → Written → Written → Collector → Result Bool E → Type 0
TakesRound recorded has_rest given left rest before now collector (Ok is_end) =
    (more : List ℕ) × (left ≡ more ++ rest) × (length more ≤ ROUND_BYTES) × IsRound is_end more rest × IsAt recorded has_rest (given ++ more) before now collector
TakesRound recorded has_rest given left rest before now collector (Err error) =
    (more : List ℕ) × (left ≡ more ++ rest) × HasStopped recorded has_rest (given ++ more) before now
