-- What a feed stands for behind its calls.
use Rattle.std.proofs.Common.{◌≡◌, ℕ, ◌+◌, ◌≤◌, true, false, List, [], ◌∷◌, ◌++◌, length, drop, sym, ap, subst, ◌∙◌, arith, append_assoc, refl, Result, Ok, Err, OnOk, IfErr}
use Rattle.std.specs.Prelude.{All}
use Rattle.std.specs.List.{AllZip}
use Rattle.std.proofs.lemmas.Bool.{true≢false}
use Rattle.osq_value.specs.declared.reading.Category.{Category}
use Rattle.osq_value.specs.declared.reading.Reading.{Reading}
use Rattle.publisher_core.specs.declared.error.StepError.{StepError}
use Rattle.publisher_core.specs.declared.record.Found.{Found}
use Rattle.publisher_core.specs.declared.record.ReadRecord.{ReadRecord}
use Rattle.osq_value.specs.declared.source.SourceKind.{SourceKind}
use Rattle.publisher_core.specs.Readings.{readings_of, skipped_of}
use Rattle.publisher_core.specs.Standing.{Reader, HasPublished}
use Rattle.publisher_core.specs.Found.{IsGiven, items_found}
use Rattle.publisher_core.specs.Stepping.{GrowsBy, SameSource, StepFinds, Steps}
use Rattle.publisher_core.proofs.Giving.{AsFound, steps_given}
use Rattle.source_feeds.specs.Feeding.{Fed, Feeding, HasRead, IsLeft, IsOpen, counted}
use Rattle.source_feeds.specs.Joining.{Rise, skipped_told}
use Rattle.source_feeds.specs.Readings.{IsReading}
use Rattle.source_feeds.specs.Stepping.{IsShown, IsStep}
use Rattle.source_feeds.specs.Taking.{FindsTo, ReadsTo, Takes, TakesAll}
use Rattle.source_feeds.proofs.Joins.{reads_skip, rises, skipped_of-append}
use Rattle.source_feeds.proofs.Shapes.{good_readings}
use Rattle.source_feeds.proofs.Steps.{behind, finds_of, read_full, reads_to, still_full, takes_all, takes_of}

-- a feed that was started, or is spent
pub started : {T : Type 0} (result : Result T StepError) (kind : SourceKind) (old new : Reader) → HasRead kind old → OnOk result (new ≡ record old { is_begun = true }) → IfErr result (λ error. new ≡ record old { is_begun = true; is_spent = true })
    → OnOk result (HasPublished new [] old.taken []) → new.is_spent ≡ false → HasRead kind new
started (Ok x) kind old new read begun spent stands unspent = record { kind_is = ap (λ (r : Reader). r.kind) begun ∙ read.kind_is; pieces = []; kept = old.taken; stream = []; stands = stands }
started (Err error) kind old new read begun spent stands unspent = absurd (true≢false (sym (ap (λ (r : Reader). r.is_spent) spent) ∙ unspent))

pub started_fed : {T : Type 0} (result : Result T StepError) (tells : Type 0) (before after name : List ℕ) (kind : SourceKind) (skipped : ℕ) (old new : Reader) (feed : Feeding) → feed ≡ record { name = name; kind = kind; skipped = skipped; reader = old } → IsOpen feed
    → OnOk result (new ≡ record old { is_begun = true }) → OnOk result (tells → (front : List ℕ) × (length front ≡ old.taken) × (before ≡ front ++ after)) → OnOk result (HasPublished new [] old.taken [])
    → OnOk result (Fed tells before after (record { name = name; kind = kind; skipped = skipped; reader = new }) feed.reader.taken [])
started_fed (Err error) tells before after name kind skipped old new feed is fresh begun dropped stands = tt
started_fed (Ok x) tells before after name kind skipped old new feed is fresh begun dropped stands =
    let taken : old.taken ≡ feed.reader.taken = ap (λ (f : Feeding). f.reader.taken) (sym is) in
    let kinds : old.kind ≡ kind = sym (ap (λ (f : Feeding). f.reader.kind) is) ∙ fresh.kind ∙ ap (λ (f : Feeding). f.kind) is in
    let none : skipped ≡ 0 = ap (λ (f : Feeding). f.skipped) (sym is) ∙ fresh.none_skipped in
    let still : new.is_ended ≡ false = ap (λ (r : Reader). r.is_ended) begun ∙ ap (λ (f : Feeding). f.reader.is_ended) (sym is) ∙ fresh.unended in
    record {
      kind = ap (λ (r : Reader). r.kind) begun ∙ kinds;
      stream = [];
      stands = subst (λ (n : ℕ). HasPublished new [] n []) taken stands;
      left = λ told. let front = dropped told in record { dropped = front.0; size = front.1 ∙ taken; bytes = front.2 };
      end = λ told over. absurd (true≢false (sym over ∙ still));
      skipped = omega (arith, none);
    }

-- the offset goes on
goes_up : {X : Type 0} (before after : ℕ) (xs : List X) → GrowsBy before after xs → before ≤ after
goes_up before after [] still = omega (arith, still)
goes_up before after (x ∷ xs) up = omega (arith, up)

-- what a step's readings are, whatever was read
pub record Shaped (kind : SourceKind) (old new : Reader) (readings : List Reading) : Type 0 where
  pub each : All IsReading readings
  pub rise : Rise old.taken readings new.taken
  pub read : HasRead kind new

pub shaped : (tells : Type 0) (middle after : List ℕ) (kind : SourceKind) (old new : Reader) (most : ℕ) (readings : List Reading) (h : HasRead kind old)
    → ((pieces : List ReadRecord) × (readings ≡ readings_of old.kind pieces) × Steps tells middle after new h.pieces h.kept h.stream pieces most) → GrowsBy old.taken new.taken readings → SameSource old new
    → Shaped kind old new readings
shaped tells middle after kind old new most readings h (pieces, read, steps) grown same =
    let b = behind old new h.kept h.pieces pieces h.stream steps.fresh h.stands steps.stands same.kind same.paths (goes_up old.taken new.taken readings grown) in
    record {
      each = subst (All IsReading) (sym read) (good_readings old.kind old.paths old.taken b.more pieces b.gives);
      rise = subst (λ (rs : List Reading). Rise old.taken rs new.taken) (sym read)
          (rises old.kind old.paths old.taken new.taken b.more pieces b.gives b.place (subst (λ (rs : List Reading). GrowsBy old.taken new.taken rs) read grown));
      read = record { kind_is = same.kind ∙ h.kind_is; pieces = h.pieces ++ pieces; kept = h.kept; stream = h.stream ++ steps.fresh; stands = steps.stands };
    }

-- counts of skipped lines add up, as far as their type goes
skips_add : (before more now sum first last : ℕ) → before ≡ counted first → now ≡ counted (before + more) → sum ≡ first + last → more ≡ last → now ≡ counted sum
skips_add before more now sum first last old new is same = omega (arith, old, new, is, same)

-- one more step
pub stepped : (tells : Type 0) (before middle after : List ℕ) (old new : Feeding) (kept : ℕ) (given : List ReadRecord) (most : ℕ) (readings : List Reading) (f : Fed tells before middle old kept given)
    → ((pieces : List ReadRecord) × (readings ≡ readings_of old.reader.kind pieces) × Steps tells middle after new.reader given kept f.stream pieces most) → GrowsBy old.reader.taken new.reader.taken readings → SameSource old.reader new.reader
    → (tells → new.reader.is_ended ≡ true → after ≡ []) → new.skipped ≡ counted (old.skipped + skipped_told readings) → new.kind ≡ old.kind
    → IsStep tells before middle after old new kept given most readings
stepped tells before middle after old new kept given most readings f (pieces, read, steps) grown same end skipped kind =
    let up = goes_up old.reader.taken new.reader.taken readings grown in
    record {
      pieces = pieces;
      read = read ∙ ap (λ (k : SourceKind). readings_of k pieces) f.kind;
      fed = record {
        kind = same.kind ∙ f.kind ∙ sym kind;
        stream = f.stream ++ steps.fresh;
        stands = steps.stands;
        left = lefts;
        end = end;
        skipped = skips_add old.skipped (skipped_told readings) new.skipped (skipped_of (given ++ pieces)) (skipped_of given) (skipped_of pieces) f.skipped skipped (skipped_of-append given pieces)
            (ap skipped_told read ∙ reads_skip old.reader.kind pieces);
      };
      few = steps.count;
      whole = λ told.
          subst (λ (k : SourceKind). ReadsTo k old.reader.paths kept (drop kept before) (given ++ pieces) new.reader.taken) (same.kind ∙ f.kind)
          (subst (λ (p : List Category). ReadsTo new.reader.kind p kept (drop kept before) (given ++ pieces) new.reader.taken) same.paths
          (reads_to new.reader kept (given ++ pieces) (f.stream ++ steps.fresh) before after steps.stands (lefts told)));
      takes = λ told. subst (λ (k : SourceKind). Takes k old.reader.paths old.reader.taken (drop old.reader.taken before) most pieces new.reader.taken) f.kind
          (takes_of tells old.reader new.reader kept given pieces f.stream before middle after most f.stands steps same.kind same.paths up (lefts told) (end told));
      over = λ told over.
          subst (λ (k : SourceKind). TakesAll k old.reader.paths kept before (given ++ pieces) new.reader.taken) (same.kind ∙ f.kind)
          (subst (λ p. TakesAll new.reader.kind p kept before (given ++ pieces) new.reader.taken) same.paths
          (takes_all new.reader kept (given ++ pieces) (f.stream ++ steps.fresh) before after steps.stands over (lefts told) (end told)));
      still = λ told still. still_full tells old.reader new.reader kept given pieces f.stream before middle after most f.stands steps same.kind same.paths up (lefts told) still;
      fresh = steps.fresh;
      left = steps.left;
      reads = λ told still. read_full tells new.reader kept given pieces f.stream middle after most steps still;
    }
  where
    lefts : tells → IsLeft before after kept (f.stream ++ steps.fresh)
    lefts told =
        let left = f.left told in
        record {
          dropped = left.dropped;
          size = left.size;
          bytes = left.bytes ∙ ap (λ (bytes : List ℕ). left.dropped ++ (f.stream ++ bytes)) (steps.left told) ∙ ap (λ (bytes : List ℕ). left.dropped ++ bytes) (sym (append_assoc f.stream steps.fresh after));
        }

-- one more step, with what it found
pub showed : (tells : Type 0) (before middle after : List ℕ) (old new : Feeding) (kept : ℕ) (given : List ReadRecord) (most : ℕ) (readings : List Reading) (f : Fed tells before middle old kept given)
    → (had : AsFound old.reader given kept f.stream) (many : List Found) (pieces : List ReadRecord) → AllZip (IsGiven old.reader.paths) many pieces → readings ≡ readings_of old.reader.kind pieces
    → StepFinds tells middle after new.reader had.many kept f.stream many most → GrowsBy old.reader.taken new.reader.taken readings → SameSource old.reader new.reader
    → (tells → new.reader.is_ended ≡ true → after ≡ []) → new.skipped ≡ counted (old.skipped + skipped_told readings) → new.kind ≡ old.kind
    → IsShown tells before middle after old new kept given most readings (items_found many)
unfolding stepped
showed tells before middle after old new kept given most readings f had many pieces each read finds grown same end skipped kind =
    let old_each = subst (λ (p : List Category). AllZip (IsGiven p) had.many given) (sym same.paths) had.each in
    let new_each = subst (λ (p : List Category). AllZip (IsGiven p) many pieces) (sym same.paths) each in
    let steps = steps_given tells middle after new.reader had.many given kept f.stream many pieces most finds old_each new_each in
    record {
      step = stepped tells before middle after old new kept given most readings f (pieces, read, steps) grown same end skipped kind;
      found = many;
      each = each;
      finds = λ told.
          let left = f.left told in
          subst (λ (k : SourceKind). FindsTo k old.reader.taken (drop old.reader.taken before) many new.reader.taken) f.kind
          (finds_of old.reader new.reader kept had.many many f.stream finds.fresh before after had.stands finds.stands same.kind (goes_up old.reader.taken new.reader.taken readings grown) (record {
            dropped = left.dropped;
            size = left.size;
            bytes = left.bytes ∙ ap (λ (bytes : List ℕ). left.dropped ++ (f.stream ++ bytes)) (finds.left told) ∙ ap (λ (bytes : List ℕ). left.dropped ++ bytes) (sym (append_assoc f.stream finds.fresh after));
          }));
      shown_are = refl;
    }
