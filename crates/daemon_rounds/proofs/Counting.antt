-- The feeds of a round go on counting the lines that are skipped.
use Rattle.std.proofs.Common.{◌≡◌, ℕ, zero, suc, ◌≤◌, ◌<◌, List, [], ◌∷◌, length, set, Some, refl, subst, sym, arith}
use Rattle.std.specs.Prelude.{slice_get}
use Rattle.osq_value.specs.declared.reading.Reading.{Reading}
use Rattle.osq_value.specs.declared.reading.Reading.TheVariants.{Events, Table}
use Rattle.publisher_core.specs.declared.record.ReadRecord.{ReadRecord}
use Rattle.source_feeds.specs.Feeding.{Fed, Feeding}
use Rattle.source_feeds.specs.Joining.{Rise}
use Rattle.source_feeds.proofs.Counts.{counts_on, counts_still}
use Rattle.daemon_rounds.specs.Turns.{Gave, StillCounts}
use Rattle.daemon_rounds.specs.Rounding.{AllCount}

rise_up : (before after : ℕ) (readings : List Reading) → Rise before readings after → before ≤ after
rise_up before after [] still = omega (arith, still)
rise_up before after (Events taken events skipped ∷ readings) (low, rest) =
    let up = rise_up taken after readings rest in omega (arith, low, up)
rise_up before after (Table taken table rows ∷ readings) (low, rest) =
    let up = rise_up taken after readings rest in omega (arith, low, up)

-- one whose count is the same, whatever else has become of it
pub still_counts : (tells : Type 0) (before : List ℕ) (feed next : Feeding) → next.name ≡ feed.name → next.kind ≡ feed.kind → next.skipped ≡ feed.skipped → StillCounts tells before feed next
still_counts tells before feed next name kind same =
    record { name = name; kind = kind; counts = λ bytes kept given fed. counts_still tells bytes before feed next kept given fed kind same }

-- one that took a step
pub step_counts : (tells : Type 0) (before after : List ℕ) (feed next : Feeding) (most : ℕ) (readings : List Reading) → Gave tells before after feed next most readings → StillCounts tells before feed next
step_counts tells before after feed next most readings gave = record {
  name = gave.same.name;
  kind = gave.same.kind;
  counts = λ bytes kept given fed. counts_on tells bytes before after feed next kept given most readings (gave.steps bytes kept given fed) gave.same.kind (rise_up feed.reader.taken next.reader.taken readings gave.rise);
}

-- before a round
pub all_count : {S : Type 0} (tells : Type 0) (left : S → List ℕ) (feeds : List Feeding) (sources : List S) → length sources ≡ length feeds → AllCount tells left feeds feeds sources
all_count tells left [] [] paired = tt
all_count tells left [] (source ∷ sources) paired = absurd (omega (arith, paired))
all_count tells left (feed ∷ feeds) [] paired = absurd (omega (arith, paired))
all_count tells left (feed ∷ feeds) (source ∷ sources) paired =
    (still_counts tells (left source) feed feed refl refl refl, all_count tells left feeds sources (omega (arith, paired)))

-- one more feed counts
pub one_counts : {S : Type 0} (tells : Type 0) (left : S → List ℕ) (feeds nexts : List Feeding) (sources : List S) (at : ℕ) (feed next : Feeding) (source : S) → AllCount tells left feeds nexts sources → slice_get feeds at ≡ Some feed → slice_get sources at ≡ Some source → StillCounts tells (left source) feed next → AllCount tells left feeds (set nexts at next) sources
one_counts tells left [] nexts sources at feed next source all was had counts = absurd (let no : ⊥ = cc in no)
one_counts tells left (first ∷ feeds) [] sources at feed next source all was had counts = absurd all
one_counts tells left (first ∷ feeds) (second ∷ nexts) [] at feed next source all was had counts = absurd all
one_counts tells left (first ∷ feeds) (second ∷ nexts) (third ∷ sources) zero feed next source all was had counts =
    let same : feed ≡ first = cc in
    let its : source ≡ third = cc in
    (subst (λ (s : _). StillCounts tells (left s) first next) its (subst (λ (f : Feeding). StillCounts tells (left source) f next) same counts), all.1)
one_counts tells left (first ∷ feeds) (second ∷ nexts) (third ∷ sources) (suc at) feed next source all was had counts =
    (all.0, one_counts tells left feeds nexts sources at feed next source all.1 was had counts)
