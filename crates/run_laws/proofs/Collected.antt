-- A collector that is ready is complete.
use Rattle.std.proofs.Common.{◌*◌, ◌≤◌, ◌<◌, false, length, ap, ◌∙◌, arith, length-append, Ok}
use Rattle.std.proofs.Math.Nat.{le-div_iff_mul-le}
use Rattle.program_words.specs.declared.command.CollectWords.{CollectWords}
use Rattle.record_lines.specs.Limits.{STEP_BYTES}
use Rattle.osq_program.specs.declared.status.Status.{Status}
use Rattle.osq_program.specs.declared.status.Status.TheVariants.{TicksSpent}
use Rattle.osq_program.specs.Answers.{IsSpentStatus, IsUsageStatus}
use Rattle.osq_program.specs.Collecting.{CollectLeaves, HasRun, IsCollect, causes_of, stream}
use Rattle.osq_program.specs.Observed.{Observed}
use Rattle.run_laws.specs.Completeness.{IsComplete}
use Rattle.run_laws.specs.Ready.{IsCollectReady, NoneFails}
use Rattle.run_laws.proofs.Replayed.{either}
use Rattle.run_laws.proofs.Settled.{NoCause, settled}

module _ (words : CollectWords) (seen : Observed) (fails : NoneFails seen) (ready : IsCollectReady words seen) where
  no_cause : NoCause (causes_of words seen)
  no_cause = record {
    query = λ place kind none. none;
    files = fails.files;
    refused = λ kind key none. none;
    keeper = λ none. none;
    unfit = λ none. none;
    moment = λ moment none. none;
    source = λ name cause. fails.sources cause.0 cause.2;
    shrank = λ name kept found none. none;
    numbers = λ none. none;
    sink = either fails.ledger fails.results;
  }

  -- rounds that left some of the stream had read more than it has
  not_more : HasRun words seen (Ok false) → ⊥
  not_more run =
      let (given, left, many, most, collected) = run.runs ready.source_tells ready.sink_tells in
      let size = ap length left ∙ length-append given (stream seen.rest_bytes) in
      let within = (le-div_iff_mul-le (let some : 0 < STEP_BYTES = omega arith in some)).1 (let all : words.ticks * STEP_BYTES ≤ length (stream seen.all_bytes) = omega (arith, many, size) in all) in
      let enough = ready.enough in
      omega (arith, within, enough)

  unspent : (status : Status) → CollectLeaves words seen status → IsSpentStatus status → ⊥
  unspent TicksSpent leaves spent = not_more leaves
  unspent _ leaves spent = absurd spent

  pub collected : (status : Status) → IsCollect words seen status → ¬ IsUsageStatus status → IsComplete status
  collected status does usage = settled (causes_of words seen) status no_cause does.cause (unspent status does.leaves) usage
