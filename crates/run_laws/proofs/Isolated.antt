-- What runs of a collector give a host hangs on its own lines.
use Rattle.std.proofs.Common.{◌≡◌, ◌∙◌, ℕ, Bool, List, ◌++◌, refl, subst, sym}
use Rattle.record_lines.specs.Lines.{lines_of}
use Rattle.collector_answers.specs.declared.answer.Answer.{Answer}
use Rattle.collector_ledger.specs.Files.{has_rest}
use Rattle.collect_rounds.specs.Collecting.{added_lines, after_lines, behind_rest}
use Rattle.collect_rounds.specs.Laws.{answers_for}
use Rattle.collect_rounds.proofs.Reopening.{reopens}
use Rattle.world_laws.specs.Lines.{AreLinesOf}
use Rattle.world_laws.proofs.Isolating.{lines_isolate}
use Rattle.program_words.specs.declared.command.CollectWords.{CollectWords}
use Rattle.osq_program.specs.Collecting.{file_in, stream}
use Rattle.osq_program.specs.Observed.{Observed}
use Rattle.run_laws.specs.Isolation.{AgreeOn, Gives, RanToEnd, HostsIsolate}

-- what a run gives a host: the digests and the answers
record Given (words : CollectWords) (seen : Observed) (host : List ℕ) : Type 0 where
  digests : List (List ℕ)
  answers : List Answer
  gives : Gives words seen host digests answers

given : (words : CollectWords) (seen : Observed) (host : List ℕ) → RanToEnd words seen → Given words seen host
given words seen host ran =
    let run = ran.done.leaves in
    let ledger = run.ledger ran.files_tell in
    let collected = (run.runs ran.source_tells ran.sink_tells).2 in
    let added = behind_rest (has_rest (file_in words seen)) (added_lines run.recorded collected.judged) in
    record {
      digests = after_lines run.recorded collected.judged host;
      answers = answers_for host run.recorded collected.judged;
      gives = record {
        recorded = run.recorded;
        ledger = ledger.0;
        judged = collected.judged;
        lines = collected.lines;
        added = added;
        grown = subst (λ (rest : Bool). seen.ledger_after ≡ seen.ledger_before ++ behind_rest rest (added_lines run.recorded collected.judged)) ledger.1 collected.ledger;
        behind = reopens (file_in words seen) (stream seen.all_bytes) run.recorded collected.judged ledger.0 collected.lines;
        has = refl;
        answered = collected.answers;
        told = refl;
      };
    }

both : (host : List ℕ) (mine : List (List ℕ)) (words others : CollectWords) (seen other : Observed) (one : Given words seen host) (two : Given others other host)
    → AgreeOn host (file_in words seen) (file_in others other) → AreLinesOf host (lines_of (stream seen.all_bytes)) mine
    → AreLinesOf host (lines_of (stream other.all_bytes)) mine
    → (digests : List (List ℕ)) × (answers : List Answer) × Gives words seen host digests answers × Gives others other host digests answers
both host mine words others seen other one two agree its theirs =
    let same =
    lines_isolate host one.gives.recorded two.gives.recorded (lines_of (stream seen.all_bytes)) (lines_of (stream other.all_bytes)) mine one.gives.judged two.gives.judged
    (agree one.gives.recorded two.gives.recorded one.gives.ledger two.gives.ledger) its theirs one.gives.lines two.gives.lines in
    let digests : one.digests ≡ two.digests = sym one.gives.has ∙ same.0 ∙ two.gives.has in
    let answers : one.answers ≡ two.answers = sym one.gives.told ∙ same.1 ∙ two.gives.told in (
      two.digests,
      two.answers,
      subst (λ (told : List Answer). Gives words seen host two.digests told) answers (subst (λ (has : List (List ℕ)). Gives words seen host has one.answers) digests one.gives),
      two.gives,
    )

pub hosts_isolate : {W : Type 0} (observed : W → W → Observed) → HostsIsolate observed
hosts_isolate observed host mine words others old new first last ran also agree its theirs =
    both host mine words others (observed old new) (observed first last) (given words (observed old new) host ran) (given others (observed first last) host also) agree its theirs
