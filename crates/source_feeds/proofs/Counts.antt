-- A feed goes on counting the lines that are skipped.
use Rattle.std.proofs.Common.{◌≡◌, ℕ, ◌≤◌, List, ◌++◌, sym, ap, subst, ◌∙◌, arith}
use Rattle.std.specs.Prelude.{drop}
use Rattle.osq_value.specs.declared.reading.Category.{Category}
use Rattle.osq_value.specs.declared.reading.Reading.{Reading}
use Rattle.osq_value.specs.declared.source.SourceKind.{SourceKind}
use Rattle.publisher_core.specs.declared.record.ReadRecord.{ReadRecord}
use Rattle.source_feeds.specs.Feeding.{Fed, Feeding}
use Rattle.source_feeds.specs.Stepping.{Counts, IsStep}
use Rattle.source_feeds.specs.Taking.{ReadsTo}
use Rattle.source_feeds.proofs.Steps.{reads_to}

-- one that counts as this one did, whatever else has become of it
pub counts_still : (tells : Type 0) (before middle : List ℕ) (feed next : Feeding) (kept : ℕ) (given : List ReadRecord) → Fed tells before middle feed kept given → next.kind ≡ feed.kind → next.skipped ≡ feed.skipped → Counts tells before feed.reader.paths kept feed.reader.taken next
counts_still tells before middle feed next kept given fed kind same = record {
  pieces = given;
  to = feed.reader.taken;
  behind = λ told. omega arith;
  reads = λ told.
      subst (λ (k : SourceKind). ReadsTo k feed.reader.paths kept (drop kept before) given feed.reader.taken) (fed.kind ∙ sym kind) (reads_to feed.reader kept given fed.stream before middle fed.stands (fed.left told));
  skipped = same ∙ fed.skipped;
}

-- one that took a step
pub counts_on : (tells : Type 0) (before middle after : List ℕ) (feed next : Feeding) (kept : ℕ) (given : List ReadRecord) (most : ℕ) (readings : List Reading) → IsStep tells before middle after feed next kept given most readings → next.kind ≡ feed.kind → feed.reader.taken ≤ next.reader.taken → Counts tells before feed.reader.paths kept feed.reader.taken next
counts_on tells before middle after feed next kept given most readings step kind up = record {
  pieces = given ++ step.pieces;
  to = next.reader.taken;
  behind = λ told. up;
  reads = λ told. subst (λ (k : SourceKind). ReadsTo k feed.reader.paths kept (drop kept before) (given ++ step.pieces) next.reader.taken) (sym kind) (step.whole told);
  skipped = step.fed.skipped;
}
