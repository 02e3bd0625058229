-- From what the parts of `generate` ensure to what it does.
use Rattle.std.proofs.Common.{◌≡◌, ◌++◌, ℕ, take, sym, subst}
use Rattle.program_words.specs.declared.command.GenerateWords.{GenerateWords}
use Rattle.generated_changes.specs.Generated.{lines_of}
use Rattle.osq_program.specs.declared.status.Status.{Status}
use Rattle.osq_program.specs.declared.status.Status.TheVariants.{Ok as Done, SinkFault, OutOfMemory}
use Rattle.osq_program.specs.Generating.{IsGenerate}
use Rattle.osq_program.specs.Observed.{Observed}
use Rattle.osq_program.specs.Report.{IsRefusedAs}
use Rattle.osq_program.proofs.Toldings.{as_plain}

-- a front part of the lines was written
abbrev pub IsFront : GenerateWords → Observed → Type 0
IsFront w seen = seen.sink_tells → (count : ℕ) × (seen.results_after ≡ seen.results_before ++ take count (lines_of w.from w.count))

pub generated_whole : (w : GenerateWords) (seen : Observed) → (seen.sink_tells → seen.results_after ≡ seen.results_before ++ lines_of w.from w.count) → (seen.sink_tells → seen.status_after ≡ seen.status_before) → IsGenerate w seen Done
generated_whole w seen all quiet = record { leaves = all; quiet = λ done. quiet; unspent = λ spent. spent; cause = λ refusal. absurd refusal }

pub unwritten : (w : GenerateWords) (seen : Observed) → IsFront w seen → seen.results_failed → (r : Status) → IsRefusedAs SinkFault r → IsGenerate w seen r
unwritten w seen front failed r is =
    subst (IsGenerate w seen) (sym (as_plain SinkFault r (λ none. none) is)) (record { leaves = front; quiet = λ done. absurd done; unspent = λ spent. spent; cause = λ refusal. failed })

pub memory_wanting : (w : GenerateWords) (seen : Observed) → IsFront w seen → (r : Status) → r ≡ OutOfMemory → IsGenerate w seen r
memory_wanting w seen front r is =
    subst (IsGenerate w seen) (sym is) (record { leaves = front; quiet = λ done. absurd done; unspent = λ spent. spent; cause = λ refusal. tt })
