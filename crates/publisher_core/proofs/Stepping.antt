-- How the records of a step add up.
use Rattle.std.proofs.Common.{◌≡◌, ◌⊎◌, inl, inr, ℕ, ◌+◌, ◌-◌, ◌<◌, ◌≤◌, Bool, true, false, zero, suc, List, [], ◌∷◌, ◌++◌, length, refl, sym, ap, subst, ◌∙◌, arith, append_assoc, length-append, slice_get, Some, None}
use Rattle.std.proofs.lemmas.List.{append-nil}
use Rattle.std.proofs.lemmas.Bool.{true≢false}
use Rattle.osq_value.specs.declared.reading.Reading.{Reading}
use Rattle.publisher_core.specs.declared.record.Found.{Found}
use Rattle.publisher_core.specs.declared.record.ReadRecord.{ReadRecord}
use Rattle.osq_value.specs.declared.source.SourceKind.{SourceKind}
use Rattle.osq_value.specs.declared.source.SourceKind.TheVariants.{Audit, Changes, Tables}
use Rattle.publisher_core.specs.Readings.{joined, readings_of}
use Rattle.publisher_core.specs.Standing.{Reader, HasFound}
use Rattle.record_lines.specs.Limits.{STEP_BYTES}
use Rattle.publisher_core.specs.Stepping.{FindsNext, GrowsBy, IsDrained, SameSource, Reads, UnderWay, StepFinds}

-- before the first record
pub begun : (tells : Type 0) (left : List ℕ) (reader : Reader) (given : List Found) (start : ℕ) (stream : List ℕ) → HasFound reader given start stream → UnderWay tells left left reader given start stream [] 0
begun tells left reader given start stream s = record {
  fresh = [];
  size = refl;
  left = λ told. refl;
  stands = subst (λ (ps : List Found). HasFound reader ps start (stream ++ [])) (sym (append-nil given)) (subst (λ (bs : List ℕ). HasFound reader given start bs) (sym (append-nil stream)) s);
}

-- some of the source was read, and nothing found since
pub record ReadsOn (tells : Type 0) (before after : List ℕ) (reader : Reader) (given : List Found) (start : ℕ) (stream : List ℕ) (had has : ℕ) : Type 0 where
  pub fresh : List ℕ
  pub size : had + length fresh ≡ has
  pub left : tells → before ≡ fresh ++ after
  pub stands : HasFound reader given start (stream ++ fresh)

pub reads_none : (tells : Type 0) (left : List ℕ) (reader : Reader) (given : List Found) (start : ℕ) (stream : List ℕ) (read : ℕ) → HasFound reader given start stream → ReadsOn tells left left reader given start stream read read
reads_none tells left reader given start stream read s = record {
  fresh = [];
  size = omega arith;
  left = λ told. refl;
  stands = subst (λ (bs : List ℕ). HasFound reader given start bs) (sym (append-nil stream)) s;
}

pub reads_on : (tells : Type 0) (before between after : List ℕ) (old new : Reader) (given : List Found) (start : ℕ) (stream : List ℕ) (had has count : ℕ)
    → (w : ReadsOn tells before between old given start stream had has) → Reads tells between after new given start (stream ++ w.fresh) count
    → ReadsOn tells before after new given start stream had (has + count)
reads_on tells before between after old new given start stream had has count w r =
    let size = length-append w.fresh r.fresh in
    let first = w.size in
    let second = r.size in
    record {
      fresh = w.fresh ++ r.fresh;
      size = omega (arith, size, first, second);
      left = λ told. w.left told ∙ ap (λ (l : List ℕ). w.fresh ++ l) (r.left told) ∙ sym (append_assoc w.fresh r.fresh after);
      stands = subst (λ (bs : List ℕ). HasFound new given start bs) (append_assoc stream w.fresh r.fresh) r.stands;
    }

pub one_next : (tells : Type 0) (before after : List ℕ) (old new : Reader) (given : List Found) (start : ℕ) (stream : List ℕ) (had has : ℕ) (one : Found)
    → (w : ReadsOn tells before after old given start stream had has) → HasFound new (given ++ one ∷ []) start (stream ++ w.fresh)
    → FindsNext tells before after new given start stream had has (Some one)
one_next tells before after old new given start stream had has one w s = record { fresh = w.fresh; size = w.size; left = w.left; found = s }

pub none_next : (tells : Type 0) (before after : List ℕ) (old new : Reader) (given : List Found) (start : ℕ) (stream : List ℕ) (had has : ℕ)
    → (w : ReadsOn tells before after old given start stream had has) → IsDrained new given start (stream ++ w.fresh) → (new.is_ended ≡ true) ⊎ (STEP_BYTES ≤ has)
    → FindsNext tells before after new given start stream had has None
none_next tells before after old new given start stream had has w d why = record { fresh = w.fresh; size = w.size; left = w.left; found = (d, why) }

pub more_found : (tells : Type 0) (before between after : List ℕ) (old new : Reader) (given : List Found) (start : ℕ) (stream : List ℕ) (many : List Found) (one : Found) (had has : ℕ)
    → (w : UnderWay tells before between old given start stream many had) → FindsNext tells between after new (given ++ many) start (stream ++ w.fresh) had has (Some one)
    → UnderWay tells before after new given start stream (many ++ one ∷ []) has
more_found tells before between after old new given start stream many one had has w n =
    let size = length-append w.fresh n.fresh in
    let first = w.size in
    let second = n.size in
    record {
      fresh = w.fresh ++ n.fresh;
      size = omega (arith, size, first, second);
      left = λ told. w.left told ∙ ap (λ (l : List ℕ). w.fresh ++ l) (n.left told) ∙ sym (append_assoc w.fresh n.fresh after);
      stands = subst (λ (bs : List ℕ). HasFound new (given ++ (many ++ one ∷ [])) start bs) (append_assoc stream w.fresh n.fresh)
          (subst (λ (all : List Found). HasFound new all start ((stream ++ w.fresh) ++ n.fresh)) (append_assoc given many (one ∷ [])) n.found);
    }

pub dry_steps : (tells : Type 0) (before between after : List ℕ) (old new : Reader) (given : List Found) (start : ℕ) (stream : List ℕ) (many : List Found) (had has most : ℕ)
    → (w : UnderWay tells before between old given start stream many had) → FindsNext tells between after new (given ++ many) start (stream ++ w.fresh) had has None → length many ≤ most
    → StepFinds tells before after new given start stream many most
dry_steps tells before between after old new given start stream many had has most w n few =
    let size = length-append w.fresh n.fresh in
    let first = w.size in
    let second = n.size in
    let long : length (w.fresh ++ n.fresh) ≡ has = omega (arith, size, first, second) in
    let d = subst (λ (bs : List ℕ). IsDrained new (given ++ many) start bs) (append_assoc stream w.fresh n.fresh) n.found.0 in
    record {
      fresh = w.fresh ++ n.fresh;
      left = λ told. w.left told ∙ ap (λ (l : List ℕ). w.fresh ++ l) (n.left told) ∙ sym (append_assoc w.fresh n.fresh after);
      stands = d.stands;
      count = few;
      full = inr (d, by_why long n.found.1);
    }
  where
    by_why : length (w.fresh ++ n.fresh) ≡ has → (new.is_ended ≡ true) ⊎ (STEP_BYTES ≤ has) → (new.is_ended ≡ true) ⊎ (STEP_BYTES ≤ length (w.fresh ++ n.fresh))
    by_why long (inl over) = inl over
    by_why long (inr enough) = inr (omega (arith, enough, long))

pub full_steps : (tells : Type 0) (before after : List ℕ) (reader : Reader) (given : List Found) (start : ℕ) (stream : List ℕ) (pieces : List Found) (read most : ℕ)
    → UnderWay tells before after reader given start stream pieces read → length pieces ≡ most
    → StepFinds tells before after reader given start stream pieces most
full_steps tells before after reader given start stream pieces read most w full = record {
  fresh = w.fresh;
  left = w.left;
  stands = w.stands;
  count = omega (arith, full);
  full = inl full;
}

pub next_same : (first old new : Reader) → SameSource first old → new ≡ record old { taken = new.taken; cutter = new.cutter; gathering = new.gathering; ready = new.ready } → SameSource first new
next_same first old new s is = record {
  kind = ap (λ (r : Reader). r.kind) is ∙ s.kind;
  paths = ap (λ (r : Reader). r.paths) is ∙ s.paths;
  is_begun = ap (λ (r : Reader). r.is_begun) is ∙ s.is_begun;
  is_spent = ap (λ (r : Reader). r.is_spent) is ∙ s.is_spent;
}

pub read_same : (first old new : Reader) → SameSource first old → new ≡ record old { cutter = new.cutter; gathering = new.gathering; ready = new.ready; is_ended = new.is_ended } → SameSource first new
read_same first old new s is = record {
  kind = ap (λ (r : Reader). r.kind) is ∙ s.kind;
  paths = ap (λ (r : Reader). r.paths) is ∙ s.paths;
  is_begun = ap (λ (r : Reader). r.is_begun) is ∙ s.is_begun;
  is_spent = ap (λ (r : Reader). r.is_spent) is ∙ s.is_spent;
}

-- the source's end is where a read gave nothing
pub end_read : (count : ℕ) (is_ended : Bool) (left : List ℕ) → (count ≡ 0 → is_ended ≡ true) → ((count ≡ 0 → ⊥) → is_ended ≡ false) → (count ≡ 0 → left ≡ []) → is_ended ≡ true → left ≡ []
end_read zero is_ended left none some end over = end refl
end_read (suc n) is_ended left none some end over = absurd (true≢false (sym over ∙ some (λ e. let same = e in cc)))

pub same_piece : (first old new : Reader) → old ≡ record first { taken = old.taken; cutter = old.cutter; gathering = old.gathering; ready = old.ready } → new ≡ record old { taken = new.taken; cutter = new.cutter; gathering = new.gathering; ready = new.ready }
    → new ≡ record first { taken = new.taken; cutter = new.cutter; gathering = new.gathering; ready = new.ready }
same_piece first old new before now = now ∙ ap (λ (r : Reader). record r { taken = new.taken; cutter = new.cutter; gathering = new.gathering; ready = new.ready }) before

-- an offset that has grown by the records so far, with one more
pub grows_more : {X : Type 0} (before between after : ℕ) (xs : List X) (x : X) → GrowsBy before between xs → between < after → GrowsBy before after (xs ++ x ∷ [])
grows_more before between after [] x still less = omega (arith, still, less)
grows_more before between after (y ∷ ys) x grown less = omega (arith, grown, less)

pub grows_same : {X : Type 0} (before between after : ℕ) (xs : List X) → GrowsBy before between xs → after ≡ between → GrowsBy before after xs
grows_same before between after [] still same = same ∙ still
grows_same before between after (y ∷ ys) grown same = omega (arith, grown, same)

-- readings are there exactly where records are
pub grows_readings : (before after : ℕ) (kind : SourceKind) (pieces : List ReadRecord) (readings : List Reading) → GrowsBy before after pieces → readings ≡ readings_of kind pieces → GrowsBy before after readings
grows_readings before after kind pieces readings grown is = subst (λ (rs : List Reading). GrowsBy before after rs) (sym is) (by_pieces kind pieces grown) where
  last_there : (first : ReadRecord) (pieces : List ReadRecord) → (last : ReadRecord) × (slice_get (first ∷ pieces) (length pieces) ≡ Some last)
  last_there first [] = (first, refl)
  last_there first (next ∷ pieces) = last_there next pieces

  place : (first : ReadRecord) (pieces : List ReadRecord) → length (first ∷ pieces) - 1 ≡ length pieces
  place first pieces = omega arith

  by_both : (pieces : List ReadRecord) → GrowsBy before after pieces → GrowsBy before after (joined pieces)
  by_both [] grown = grown
  by_both (first ∷ pieces) grown =
      let last = last_there first pieces in
      let found = ap (λ (n : ℕ). slice_get (first ∷ pieces) n) (place first pieces) ∙ last.1 in
      rw found grown

  by_pieces : (kind : SourceKind) (pieces : List ReadRecord) → GrowsBy before after pieces → GrowsBy before after (readings_of kind pieces)
  by_pieces Audit pieces grown = by_both pieces grown
  by_pieces Changes pieces grown = by_both pieces grown
  by_pieces Tables [] grown = grown
  by_pieces Tables (first ∷ pieces) grown = grown

pub source_same : (first old new : Reader) → SameSource first old → SameSource old new → SameSource first new
source_same first old new s then_same = record {
  kind = then_same.kind ∙ s.kind;
  paths = then_same.paths ∙ s.paths;
  is_begun = then_same.is_begun ∙ s.is_begun;
  is_spent = then_same.is_spent ∙ s.is_spent;
}
