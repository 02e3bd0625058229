-- What runs of a collector give a host.
use Rattle.std.specs.Prelude.{◌≡◌, ℕ, List, ◌++◌}
use Rattle.record_lines.specs.Lines.{lines_of}
use Rattle.collector_core.specs.Received.{HostDigests}
use Rattle.collector_answers.specs.declared.answer.Answer.{Answer}
use Rattle.collector_answers.specs.declared.judging.Judged.{Judged}
use Rattle.collector_answers.specs.Judging.{AreJudged}
use Rattle.collector_ledger.specs.Files.{IsLedgerOf}
use Rattle.collect_rounds.specs.Collecting.{after_lines, answers_to}
use Rattle.collect_rounds.specs.Laws.{answers_for}
use Rattle.world_laws.specs.Lines.{AreLinesOf}
use Rattle.program_words.specs.declared.command.CollectWords.{CollectWords}
use Rattle.osq_program.specs.declared.status.Status.TheVariants.{Ok as Done}
use Rattle.osq_program.specs.Collecting.{IsCollect, file_in, stream}
use Rattle.osq_program.specs.Observed.{Observed}

-- A run of these words that ended with Ok, and whose objects tell what they hold.
pub record RanToEnd (words : CollectWords) (seen : Observed) : Type 0 where
  pub files_tell : seen.files_tell
  pub source_tells : seen.source_tells
  pub sink_tells : seen.sink_tells
  pub done : IsCollect words seen Done

-- the ledgers of the two files agree on the host
abbrev pub AgreeOn : List ℕ → List ℕ → List ℕ → Type 0
AgreeOn host file other = (one two : HostDigests) → IsLedgerOf file one → IsLedgerOf other two → one host ≡ two host

-- The ledger of the run's file, with what the run added to it, has these digests of the host; and these are the answers to it that the run wrote.
pub record Gives (words : CollectWords) (seen : Observed) (host : List ℕ) (digests : List (List ℕ)) (answers : List Answer) : Type 0 where
  pub recorded : HostDigests
  pub ledger : IsLedgerOf (file_in words seen) recorded
  pub judged : List Judged
  pub lines : AreJudged (lines_of (stream seen.all_bytes)) judged
  pub added : List ℕ
  pub grown : seen.ledger_after ≡ seen.ledger_before ++ added
  pub behind : IsLedgerOf (file_in words seen ++ added) (after_lines recorded judged)
  pub has : after_lines recorded judged host ≡ digests
  pub answered : seen.results_after ≡ seen.results_before ++ answers_to recorded judged
  pub told : answers_for host recorded judged ≡ answers

-- Two runs over files whose ledgers agree on a host, and over streams with the same lines of it, give the host the same.
abbrev pub HostsIsolate : {W : Type 0} → (W → W → Observed) → Type 0
HostsIsolate {W} observed =
    (host : List ℕ) (mine : List (List ℕ)) (words others : CollectWords) (old new first last : W) → RanToEnd words (observed old new) → RanToEnd others (observed first last)
    → AgreeOn host (file_in words (observed old new)) (file_in others (observed first last))
    → AreLinesOf host (lines_of (stream (observed old new).all_bytes)) mine → AreLinesOf host (lines_of (stream (observed first last).all_bytes)) mine
    → (digests : List (List ℕ)) × (answers : List Answer) × Gives words (observed old new) host digests answers × Gives others (observed first last) host digests answers
