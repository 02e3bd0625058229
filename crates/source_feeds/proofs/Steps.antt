-- What a step takes, from what its publisher stands for before and behind it.
use Rattle.std.proofs.Common.{◌≡◌, ◌⊎◌, inl, inr, ℕ, ◌+◌, ◌≤◌, ◌<◌, Bool, true, false, ◌&&◌, ◌==◌, List, [], ◌∷◌, ◌++◌, length, drop, refl, sym, ap, subst, ◌∙◌, arith, append_assoc, append-nil, length-append}
use Rattle.std.proofs.lemmas.Bool.{true≢false}
use Rattle.std.proofs.Math.Seq.{drop-append_seam}
use Rattle.osq_value.specs.declared.reading.Category.{Category}
use Rattle.audit_records.specs.Groups.{groups_of, whole}
use Rattle.record_lines.specs.Lines.{lines_of}
use Rattle.publisher_core.specs.declared.record.Found.{Found}
use Rattle.publisher_core.specs.declared.record.ReadRecord.{ReadRecord}
use Rattle.osq_value.specs.declared.source.SourceKind.{SourceKind}
use Rattle.osq_value.specs.declared.source.SourceKind.TheVariants.{Audit, Changes, Tables}
use Rattle.publisher_core.specs.Audit.{items_of}
use Rattle.publisher_core.specs.AuditParts.{BeginsWithLine, lines_in}
use Rattle.publisher_core.specs.Records.{ended, HaveNoFeed}
use Rattle.publisher_core.specs.Found.{Finds}
use Rattle.publisher_core.specs.Standing.{FoundBy, GivenBy, Gives, HasFound, HasMade, HasPublished, HeldBy, KeptBy, Reader, Waits, is_at_end}
use Rattle.record_lines.specs.Limits.{STEP_BYTES}
use Rattle.publisher_core.specs.Stepping.{HoldsLast, IsDry, Steps}
use Rattle.publisher_core.proofs.Behind.{finds_behind}
use Rattle.publisher_core.proofs.Given.{ended-append}
use Rattle.publisher_core.proofs.Giving.{over_dry}
use Rattle.source_feeds.specs.Feeding.{IsLeft}
use Rattle.source_feeds.specs.Taking.{BeginWith, FindsTo, ReadsTo, Takes, TakesAll, TakesFront, TakesGroups, front_lines}
use Rattle.source_feeds.proofs.Cuts.{Longer, compare, front_taken, more_lines, plain_first, plain_last, whole_lines}
use Rattle.source_feeds.proofs.Groups.{held_begins, held_groups, short_groups}
use Rattle.source_feeds.proofs.Splits.{audit_split, gives_split}

-- lines and what stands behind them
spelt : (lines held : List (List ℕ)) (rest : List ℕ) → ended (lines ++ held) ++ rest ≡ ended lines ++ (ended held ++ rest)
spelt lines held rest = ap (λ (bytes : List ℕ). bytes ++ rest) (ended-append lines held) ∙ append_assoc (ended lines) (ended held) rest

size_spelt : (lines held : List (List ℕ)) → length (ended (lines ++ held)) ≡ length (ended lines) + length (ended held)
size_spelt lines held = ap length (ended-append lines held) ∙ length-append (ended lines) (ended held)

-- the lines that a publisher that went on has taken since
pub record Further {Thing : Type 0} (Makes : Reader → ℕ → List (List ℕ) → List Thing → Type 0) (Keeps : Reader → List Thing → ℕ → List (List ℕ) → List (List ℕ) → Type 0) (old new : Reader) (kept : ℕ) (given all : List Thing) (stream fresh : List ℕ) (s : HasMade Makes Keeps old given kept stream) (t : HasMade Makes Keeps new all kept (stream ++ fresh)) : Type 0 where
  pub more : List (List ℕ)
  pub lines_are : t.lines ≡ s.lines ++ more
  pub bytes : stream ++ fresh ≡ ended s.lines ++ (ended (more ++ t.held) ++ t.rest)
  pub plain : HaveNoFeed (more ++ t.held)
  pub place : new.taken ≡ old.taken + length (ended more)

pub further : {Thing : Type 0} (Makes : Reader → ℕ → List (List ℕ) → List Thing → Type 0) (Keeps : Reader → List Thing → ℕ → List (List ℕ) → List (List ℕ) → Type 0) (old new : Reader) (kept : ℕ) (given all : List Thing) (stream fresh : List ℕ)
    → (s : HasMade Makes Keeps old given kept stream) (t : HasMade Makes Keeps new all kept (stream ++ fresh)) → old.taken ≤ new.taken → Further Makes Keeps old new kept given all stream fresh s t
further Makes Keeps old new kept given all stream fresh s t grown =
    let old_place = s.taken in
    let new_place = t.taken in
    let here : ended s.lines ++ (ended s.held ++ (s.rest ++ fresh)) ≡ stream ++ fresh =
    sym (ap (λ (bytes : List ℕ). bytes ++ fresh) (s.cut ∙ spelt s.lines s.held s.rest) ∙ append_assoc (ended s.lines) (ended s.held ++ s.rest) fresh
    ∙ ap (λ (bytes : List ℕ). ended s.lines ++ bytes) (append_assoc (ended s.held) s.rest fresh)) in
    let begins = more_lines s.lines t.lines (ended s.held ++ (s.rest ++ fresh)) (ended t.held ++ t.rest) (plain_first s.lines s.held s.plain) (plain_first t.lines t.held t.plain)
    (here ∙ t.cut ∙ spelt t.lines t.held t.rest) (omega (arith, old_place, new_place, grown)) in
    let more = begins.0 in
    let lines_are = begins.1 in
    let all_lines : t.lines ++ t.held ≡ s.lines ++ (more ++ t.held) = ap (λ (ls : List (List ℕ)). ls ++ t.held) lines_are ∙ append_assoc s.lines more t.held in
    let size = ap (λ (ls : List (List ℕ)). length (ended ls)) lines_are ∙ size_spelt s.lines more in
    record {
      more = more;
      lines_are = lines_are;
      bytes = t.cut ∙ ap (λ (ls : List (List ℕ)). ended ls ++ t.rest) all_lines ∙ spelt s.lines (more ++ t.held) t.rest;
      plain = plain_last s.lines (more ++ t.held) (subst HaveNoFeed all_lines t.plain);
      place = omega (arith, old_place, new_place, size);
    }

-- what a publisher that went on has given since
pub record Behind (old new : Reader) (kept : ℕ) (given pieces : List ReadRecord) (stream fresh : List ℕ) (s : HasPublished old given kept stream) (t : HasPublished new (given ++ pieces) kept (stream ++ fresh)) : Type 0 where
  pub more : List (List ℕ)
  pub lines_are : t.lines ≡ s.lines ++ more
  pub bytes : stream ++ fresh ≡ ended s.lines ++ (ended (more ++ t.held) ++ t.rest)
  pub plain : HaveNoFeed (more ++ t.held)
  pub all : Gives old.kind old.paths kept (s.lines ++ more) (given ++ pieces)
  pub gives : Gives old.kind old.paths old.taken more pieces
  pub place : new.taken ≡ old.taken + length (ended more)

pub behind : (old new : Reader) (kept : ℕ) (given pieces : List ReadRecord) (stream fresh : List ℕ) (s : HasPublished old given kept stream) (t : HasPublished new (given ++ pieces) kept (stream ++ fresh))
    → new.kind ≡ old.kind → new.paths ≡ old.paths → old.taken ≤ new.taken → Behind old new kept given pieces stream fresh s t
behind old new kept given pieces stream fresh s t kind paths grown =
    let f = further GivenBy KeptBy old new kept given (given ++ pieces) stream fresh s t grown in
    let all = subst (λ (ls : List (List ℕ)). Gives old.kind old.paths kept ls (given ++ pieces)) f.lines_are
    (subst (λ (k : SourceKind). Gives k old.paths kept t.lines (given ++ pieces)) kind (subst (λ (p : List Category). Gives new.kind p kept t.lines (given ++ pieces)) paths t.gives)) in
    record {
      more = f.more;
      lines_are = f.lines_are;
      bytes = f.bytes;
      plain = f.plain;
      all = all;
      gives = subst (λ (n : ℕ). Gives old.kind old.paths n f.more pieces) (sym s.taken) (gives_split old.kind old.paths kept s.lines f.more given pieces s.gives all);
      place = f.place;
    }

-- the source's bytes behind the offset at which the step began
bytes_behind : (before after dropped front rest : List ℕ) (stream : List ℕ) (kept from : ℕ) → length dropped ≡ kept → before ≡ dropped ++ (stream ++ after) → stream ≡ front ++ rest → from ≡ kept + length front → drop from before ≡ rest ++ after
bytes_behind before after dropped front rest stream kept from size is cut at =
    let all : before ≡ (dropped ++ front) ++ (rest ++ after) =
    is ∙ ap (λ (bytes : List ℕ). dropped ++ (bytes ++ after)) cut ∙ ap (λ (bytes : List ℕ). dropped ++ bytes) (append_assoc front rest after) ∙ sym (append_assoc dropped front (rest ++ after)) in
    let long = length-append dropped front in
    let place : from ≡ length (dropped ++ front) = omega (arith, size, at, long) in
    ap (λ (n : ℕ). drop n before) place ∙ ap (drop (length (dropped ++ front))) all ∙ drop-append_seam (dropped ++ front) (rest ++ after)

-- the step read enough, or to the source's end
abbrev ReadEnough : Reader → List ℕ → List ℕ → Type 0
ReadEnough reader fresh after = ((reader.is_ended ≡ true) × (after ≡ [])) ⊎ (STEP_BYTES ≤ length fresh)

not_some : (held more others : List (List ℕ)) (line : List ℕ) → held ≡ [] → held ≡ (line ∷ more) ++ others → ⊥
not_some held more others line none some = let size = ap length (sym none ∙ some) in omega (arith, size)

-- of an audit log the last group may be left
takes_groups : (old new : Reader) (kept : ℕ) (given pieces : List ReadRecord) (stream fresh bytes : List ℕ) (s : HasPublished old given kept stream) (d : IsDry new (given ++ pieces) kept (stream ++ fresh))
    → (b : Behind old new kept given pieces stream fresh s d.stands) → (others : List (List ℕ)) → (longer : Longer (front_lines bytes) b.more others d.stands.held) → new.kind ≡ old.kind → old.kind ≡ Audit
    → STEP_BYTES ≤ length bytes → TakesGroups (kept + length (ended s.lines)) bytes b.more
takes_groups old new kept given pieces stream fresh bytes s d b others longer kind is enough =
    let from = kept + length (ended s.lines) in
    let t = d.stands in
    let own = subst (λ (k : SourceKind). Gives k old.paths kept s.lines given) is s.gives in
    let all = subst (λ (k : SourceKind). Gives k old.paths kept (s.lines ++ b.more) (given ++ pieces)) is b.all in
    let split = audit_split kept s.lines b.more given pieces own all in
    let waits = subst (λ (k : SourceKind). Waits k new (given ++ pieces) kept t.lines t.held) (kind ∙ is) t.waits in
    let last = subst (λ (k : SourceKind). HoldsLast k kept (s.lines ++ b.more) t.held) (kind ∙ is) (subst (λ (ls : List (List ℕ)). HoldsLast new.kind kept ls t.held) b.lines_are d.last) in
    let begins = by_flag new.is_ended refl (λ open_is. held_begins new (given ++ pieces) kept t.lines t.held waits d.none open_is) in
    let size = size_spelt s.lines b.more in
    let at : kept + length (ended (s.lines ++ b.more)) ≡ from + length (ended b.more) = omega (arith, size) in
    let groups = held_groups kept s.lines b.more t.held pieces split last
    ∙ ap (λ (n : ℕ). split.before ++ (groups_of (lines_in (items_of from b.more)) ++ whole (lines_in (items_of n t.held)))) at
    ∙ ap (λ (ls : List (List ℕ)). split.before ++ (groups_of (lines_in (items_of from b.more)) ++ whole (lines_in (items_of (from + length (ended b.more)) ls)))) longer.behind_is in
    record {
      enough = enough;
      first = b.more;
      last = longer.first ∷ longer.more;
      front = longer.front_is;
      begins = begins;
      group = short_groups from b.more (longer.first ∷ longer.more) others split.before (lines_in (items_of kept ((s.lines ++ b.more) ++ t.held))) groups begins;
      taken = ([], sym (append-nil b.more));
    }
  where
    by_flag : (flag : Bool) → new.is_ended ≡ flag → (new.is_ended ≡ false → (d.stands.held ≡ []) ⊎ BeginsWithLine (items_of (kept + length (ended d.stands.lines)) d.stands.held))
        → BeginsWithLine (items_of (kept + length (ended s.lines) + length (ended b.more)) (longer.first ∷ longer.more))
    by_flag true over rec = absurd (not_some d.stands.held longer.more others longer.first (d.all over) longer.behind_is)
    by_flag false open_is rec = elim (rec open_is) [
      | inl none ↦ absurd (not_some d.stands.held longer.more others longer.first none longer.behind_is)
      | inr begins ↦ subst (λ (ls : List (List ℕ)). BeginsWithLine (items_of (kept + length (ended d.stands.lines)) ls)) longer.behind_is begins
    ]

-- as many bytes were read behind the offset as the step read
size_read : (old new : Reader) (kept : ℕ) (given pieces : List ReadRecord) (stream fresh : List ℕ) (s : HasPublished old given kept stream) (t : HasPublished new (given ++ pieces) kept (stream ++ fresh)) → (b : Behind old new kept given pieces stream fresh s t)
    → length fresh ≤ length (ended (b.more ++ t.held) ++ t.rest)
size_read old new kept given pieces stream fresh s t b =
    let read = ap length b.bytes in
    let sum = length-append stream fresh in
    let whole_size = length-append (ended s.lines) (ended (b.more ++ t.held) ++ t.rest) in
    let cut = ap length (s.cut ∙ spelt s.lines s.held s.rest) in
    let front = length-append (ended s.lines) (ended s.held ++ s.rest) in
    omega (arith, read, sum, whole_size, cut, front)

-- a step that is not full takes the lines of the first bytes
pub takes_front : (old new : Reader) (kept : ℕ) (given pieces : List ReadRecord) (stream fresh after bytes : List ℕ) (s : HasPublished old given kept stream) (d : IsDry new (given ++ pieces) kept (stream ++ fresh))
    → (b : Behind old new kept given pieces stream fresh s d.stands) → new.kind ≡ old.kind → bytes ≡ (ended (b.more ++ d.stands.held) ++ d.stands.rest) ++ after → ReadEnough new fresh after
    → TakesFront old.kind (kept + length (ended s.lines)) bytes b.more
takes_front old new kept given pieces stream fresh after bytes s d b kind is why = by_kind old.kind refl front where
  held : List (List ℕ)
  held = d.stands.held

  read : length fresh ≤ length (ended (b.more ++ held) ++ d.stands.rest)
  read = size_read old new kept given pieces stream fresh s d.stands b

  within : ReadEnough new fresh after → (STEP_BYTES ≤ length (ended (b.more ++ held) ++ d.stands.rest)) ⊎ (after ≡ [])
  within (inl over) = inr over.1
  within (inr enough) = let size = read in inl (omega (arith, enough, size))

  front : BeginWith (front_lines bytes) (b.more ++ held)
  front =
      subst (λ (bs : List ℕ). BeginWith (front_lines bs) (b.more ++ held)) (sym (is ∙ append_assoc (ended (b.more ++ held)) d.stands.rest after))
      (front_taken STEP_BYTES (b.more ++ held) d.stands.rest after b.plain d.dry (within why))

  by_none : held ≡ [] → BeginWith (front_lines bytes) (b.more ++ held) → BeginWith (front_lines bytes) b.more
  by_none none begins = subst (λ (ls : List (List ℕ)). BeginWith (front_lines bytes) ls) (ap (λ (ls : List (List ℕ)). b.more ++ ls) none ∙ append-nil b.more) begins

  lasts : HoldsLast old.kind kept d.stands.lines held
  lasts = subst (λ (k : SourceKind). HoldsLast k kept d.stands.lines held) kind d.last

  by_longer : (others : List (List ℕ)) → old.kind ≡ Audit → ReadEnough new fresh after → BeginWith (front_lines bytes) b.more ⊎ Longer (front_lines bytes) b.more others held
      → BeginWith (front_lines bytes) b.more ⊎ TakesGroups (kept + length (ended s.lines)) bytes b.more
  by_longer others audit read_enough (inl begins) = inl begins
  by_longer others audit (inl over) (inr longer) = absurd (not_some held longer.more others longer.first (d.all over.0) longer.behind_is)
  by_longer others audit (inr enough) (inr longer) =
      let size = read in
      let all = ap length is ∙ length-append (ended (b.more ++ held) ++ d.stands.rest) after in
      inr (takes_groups old new kept given pieces stream fresh bytes s d b others longer kind audit (omega (arith, enough, size, all)))

  by_kind : (k : SourceKind) → old.kind ≡ k → BeginWith (front_lines bytes) (b.more ++ held) → TakesFront k (kept + length (ended s.lines)) bytes b.more
  by_kind Audit audit begins = by_longer begins.0 audit why (compare (front_lines bytes) b.more begins.0 held (sym begins.1))
  by_kind Changes changes begins = by_none (subst (λ (k : SourceKind). HoldsLast k kept d.stands.lines held) changes lasts) begins
  by_kind Tables tables begins = by_none (subst (λ (k : SourceKind). HoldsLast k kept d.stands.lines held) tables lasts) begins

-- what a step takes of a source that tells its bytes
takes_by : (old new : Reader) (kept : ℕ) (given pieces : List ReadRecord) (stream fresh before after : List ℕ) (most : ℕ) (s : HasPublished old given kept stream) (t : HasPublished new (given ++ pieces) kept (stream ++ fresh))
    → (b : Behind old new kept given pieces stream fresh s t) → (left : IsLeft before after kept (stream ++ fresh)) → length pieces ≤ most
    → ((drop old.taken before ≡ (ended (b.more ++ t.held) ++ t.rest) ++ after) → (length pieces ≡ most) ⊎ TakesFront old.kind (kept + length (ended s.lines)) (drop old.taken before) b.more)
    → Takes old.kind old.paths old.taken (drop old.taken before) most pieces new.taken
takes_by old new kept given pieces stream fresh before after most s t b left few all =
    let bytes = bytes_behind before after left.dropped (ended s.lines) (ended (b.more ++ t.held) ++ t.rest) (stream ++ fresh) kept old.taken left.size left.bytes b.bytes s.taken in
    record {
      reads = record {
        lines = b.more;
        rest = ended t.held ++ (t.rest ++ after);
        cut = bytes ∙ append_assoc (ended (b.more ++ t.held)) t.rest after ∙ spelt b.more t.held (t.rest ++ after);
        plain = plain_first b.more t.held b.plain;
        gives = b.gives;
        place = b.place;
      };
      few = few;
      all = by_all (all bytes);
    }
  where
    by_all : (length pieces ≡ most) ⊎ TakesFront old.kind (kept + length (ended s.lines)) (drop old.taken before) b.more → (length pieces ≡ most) ⊎ TakesFront old.kind old.taken (drop old.taken before) b.more
    by_all (inl full) = inl full
    by_all (inr front) = inr (subst (λ (n : ℕ). TakesFront old.kind n (drop old.taken before) b.more) (sym s.taken) front)

pub takes_of : (tells : Type 0) (old new : Reader) (kept : ℕ) (given pieces : List ReadRecord) (stream before middle after : List ℕ) (most : ℕ) (s : HasPublished old given kept stream) (steps : Steps tells middle after new given kept stream pieces most)
    → new.kind ≡ old.kind → new.paths ≡ old.paths → old.taken ≤ new.taken → IsLeft before after kept (stream ++ steps.fresh) → (new.is_ended ≡ true → after ≡ [])
    → Takes old.kind old.paths old.taken (drop old.taken before) most pieces new.taken
takes_of tells old new kept given pieces stream before middle after most s steps kind paths grown left end = by_full steps.full where
  by_full : (length pieces ≡ most) ⊎ (IsDry new (given ++ pieces) kept (stream ++ steps.fresh) × ((new.is_ended ≡ true) ⊎ (STEP_BYTES ≤ length steps.fresh))) → Takes old.kind old.paths old.taken (drop old.taken before) most pieces new.taken
  by_full (inl full) =
      let b = behind old new kept given pieces stream steps.fresh s steps.stands kind paths grown in
      takes_by old new kept given pieces stream steps.fresh before after most s steps.stands b left steps.count (λ bytes. inl full)
  by_full (inr (d, inl over)) =
      let b = behind old new kept given pieces stream steps.fresh s d.stands kind paths grown in
      takes_by old new kept given pieces stream steps.fresh before after most s d.stands b left steps.count
      (λ bytes. inr (takes_front old new kept given pieces stream steps.fresh after (drop old.taken before) s d b kind bytes (inl (over, end over))))
  by_full (inr (d, inr enough)) =
      let b = behind old new kept given pieces stream steps.fresh s d.stands kind paths grown in
      takes_by old new kept given pieces stream steps.fresh before after most s d.stands b left steps.count
      (λ bytes. inr (takes_front old new kept given pieces stream steps.fresh after (drop old.taken before) s d b kind bytes (inr enough)))

-- the lines in which a step found these
pub finds_of : (old new : Reader) (kept : ℕ) (before many : List Found) (stream fresh bytes after : List ℕ) (s : HasFound old before kept stream) (t : HasFound new (before ++ many) kept (stream ++ fresh))
    → new.kind ≡ old.kind → old.taken ≤ new.taken → IsLeft bytes after kept (stream ++ fresh)
    → FindsTo old.kind old.taken (drop old.taken bytes) many new.taken
finds_of old new kept before many stream fresh bytes after s t kind grown left =
    let f = further FoundBy HeldBy old new kept before (before ++ many) stream fresh s t grown in
    let all : Finds old.kind kept (s.lines ++ f.more) (before ++ many) = subst (λ (ls : List (List ℕ)). Finds old.kind kept ls (before ++ many)) f.lines_are
    (subst (λ (k : SourceKind). Finds k kept t.lines (before ++ many)) kind t.gives) in
    let cut = bytes_behind bytes after left.dropped (ended s.lines) (ended (f.more ++ t.held) ++ t.rest) (stream ++ fresh) kept old.taken left.size left.bytes f.bytes s.taken in
    record {
      lines = f.more;
      rest = ended t.held ++ (t.rest ++ after);
      cut = cut ∙ append_assoc (ended (f.more ++ t.held)) t.rest after ∙ spelt f.more t.held (t.rest ++ after);
      plain = plain_first f.more t.held f.plain;
      gives = subst (λ (n : ℕ). Finds old.kind n f.more many) (sym s.taken) (finds_behind old.kind kept s.lines f.more before many s.gives all);
      place = f.place;
    }

both_true : (a b : Bool) → (a && b) ≡ true → a ≡ true
both_true true b is = refl
both_true false b is = absurd (true≢false (sym is))

not_over : (reader : Reader) → reader.is_ended ≡ true → reader.ready ≡ [] → is_at_end reader ≡ false → ⊥
not_over reader over none still =
    let both : is_at_end reader ≡ true = rw (over, none) refl in
    true≢false (sym both ∙ still)

-- a step that did not come to the end was full, or much stood before it
pub still_full : (tells : Type 0) (old new : Reader) (kept : ℕ) (given pieces : List ReadRecord) (stream before middle after : List ℕ) (most : ℕ) (s : HasPublished old given kept stream) (steps : Steps tells middle after new given kept stream pieces most)
    → new.kind ≡ old.kind → new.paths ≡ old.paths → old.taken ≤ new.taken → IsLeft before after kept (stream ++ steps.fresh) → is_at_end new ≡ false
    → (length pieces ≡ most) ⊎ (STEP_BYTES ≤ length (drop old.taken before))
still_full tells old new kept given pieces stream before middle after most s steps kind paths grown left still = by_full steps.full where
  by_full : (length pieces ≡ most) ⊎ (IsDry new (given ++ pieces) kept (stream ++ steps.fresh) × ((new.is_ended ≡ true) ⊎ (STEP_BYTES ≤ length steps.fresh))) → (length pieces ≡ most) ⊎ (STEP_BYTES ≤ length (drop old.taken before))
  by_full (inl full) = inl full
  by_full (inr (d, inl over)) = absurd (not_over new over d.none still)
  by_full (inr (d, inr enough)) =
      let b = behind old new kept given pieces stream steps.fresh s d.stands kind paths grown in
      let bytes = ap length (bytes_behind before after left.dropped (ended s.lines) (ended (b.more ++ d.stands.held) ++ d.stands.rest) (stream ++ steps.fresh) kept old.taken left.size left.bytes b.bytes s.taken) in
      let sum = length-append (ended (b.more ++ d.stands.held) ++ d.stands.rest) after in
      let read = size_read old new kept given pieces stream steps.fresh s d.stands b in
      inr (omega (arith, enough, bytes, sum, read))

-- or as much was read in it
pub read_full : (tells : Type 0) (new : Reader) (kept : ℕ) (given pieces : List ReadRecord) (stream middle after : List ℕ) (most : ℕ) (steps : Steps tells middle after new given kept stream pieces most) → is_at_end new ≡ false → (length pieces ≡ most) ⊎ (STEP_BYTES ≤ length steps.fresh)
read_full tells new kept given pieces stream middle after most steps still = by_full steps.full where
  by_full : (length pieces ≡ most) ⊎ (IsDry new (given ++ pieces) kept (stream ++ steps.fresh) × ((new.is_ended ≡ true) ⊎ (STEP_BYTES ≤ length steps.fresh))) → (length pieces ≡ most) ⊎ (STEP_BYTES ≤ length steps.fresh)
  by_full (inl full) = inl full
  by_full (inr (d, inl over)) = absurd (not_over new over d.none still)
  by_full (inr (d, inr enough)) = inr enough

-- what a session has taken so far of a source that tells its bytes
pub reads_to : (new : Reader) (kept : ℕ) (pieces : List ReadRecord) (stream before after : List ℕ) → HasPublished new pieces kept stream → IsLeft before after kept stream → ReadsTo new.kind new.paths kept (drop kept before) pieces new.taken
reads_to new kept pieces stream before after t left =
    let tail : drop kept before ≡ stream ++ after = ap (λ (n : ℕ). drop n before) (sym left.size) ∙ ap (drop (length left.dropped)) left.bytes ∙ drop-append_seam left.dropped (stream ++ after) in
    record {
      lines = t.lines;
      rest = (ended t.held ++ t.rest) ++ after;
      cut = tail ∙ ap (λ (bytes : List ℕ). bytes ++ after) (t.cut ∙ spelt t.lines t.held t.rest) ∙ append_assoc (ended t.lines) (ended t.held ++ t.rest) after;
      plain = plain_first t.lines t.held t.plain;
      gives = t.gives;
      place = t.taken;
    }

-- lines end with a line feed
ends_with_feed : (line : List ℕ) (lines : List (List ℕ)) → (begun : List ℕ) × (ended (line ∷ lines) ≡ begun ++ 10 ∷ [])
ends_with_feed line [] = (line, append-nil (line ++ 10 ∷ []))
ends_with_feed line (next ∷ lines) =
    let rest = ends_with_feed next lines in
    ((line ++ 10 ∷ []) ++ rest.0, ap (λ (bytes : List ℕ). (line ++ 10 ∷ []) ++ bytes) rest.1 ∙ sym (append_assoc (line ++ 10 ∷ []) rest.0 (10 ∷ [])))

last_feed : (dropped : List ℕ) (lines : List (List ℕ)) (kept place : ℕ) → place ≡ kept + length (ended lines) → (place ≡ kept) ⊎ ((kept < place) × (begun : List ℕ) × (dropped ++ ended lines ≡ begun ++ 10 ∷ []))
last_feed dropped [] kept place is = inl (omega (arith, is))
last_feed dropped (line ∷ lines) kept place is =
    let end = ends_with_feed line lines in
    let size = ap length end.1 ∙ length-append end.0 (10 ∷ []) in
    inr (omega (arith, is, size), dropped ++ end.0, ap (λ (bytes : List ℕ). dropped ++ bytes) end.1 ∙ sym (append_assoc dropped end.0 (10 ∷ [])))

-- at the source's end every line is taken
pub takes_all : (new : Reader) (kept : ℕ) (pieces : List ReadRecord) (stream before after : List ℕ) → HasPublished new pieces kept stream → is_at_end new ≡ true → IsLeft before after kept stream → (new.is_ended ≡ true → after ≡ [])
    → TakesAll new.kind new.paths kept before pieces new.taken
takes_all new kept pieces stream before after stands over left end =
    let d = over_dry new pieces kept stream over stands in
    let t = d.stands in
    let is_over = both_true new.is_ended (length new.ready == 0) over in
    let none = d.all is_over in
    let nothing = end is_over in
    let all_lines : t.lines ++ t.held ≡ t.lines = ap (λ (ls : List (List ℕ)). t.lines ++ ls) none ∙ append-nil t.lines in
    let cut : stream ≡ ended t.lines ++ t.rest = t.cut ∙ ap (λ (ls : List (List ℕ)). ended ls ++ t.rest) all_lines in
    let bytes : before ≡ left.dropped ++ (ended t.lines ++ t.rest) =
    left.bytes ∙ ap (λ (tail : List ℕ). left.dropped ++ (stream ++ tail)) nothing ∙ ap (λ (tail : List ℕ). left.dropped ++ tail) (append-nil stream ∙ cut) in
    let dropped = left.size in
    let tail : drop kept before ≡ ended t.lines ++ t.rest = ap (λ (n : ℕ). drop n before) (sym dropped) ∙ ap (drop (length left.dropped)) bytes ∙ drop-append_seam left.dropped (ended t.lines ++ t.rest) in
    let plain = subst HaveNoFeed all_lines t.plain in
    let lines : lines_of (drop kept before) ≡ t.lines = ap lines_of tail ∙ whole_lines t.lines t.rest plain d.dry in
    let place = t.taken in
    let long = ap length bytes ∙ length-append left.dropped (ended t.lines ++ t.rest) in
    let size = length-append left.dropped (ended t.lines) in
    record {
      within = omega (arith, long, dropped);
      gives = subst (λ (ls : List (List ℕ)). Gives new.kind new.paths kept ls pieces) (sym lines) t.gives;
      size = place ∙ ap (λ (ls : List (List ℕ)). kept + length (ended ls)) (sym lines);
      place = record {
        front = left.dropped ++ ended t.lines;
        rest = t.rest;
        cut = bytes ∙ sym (append_assoc left.dropped (ended t.lines) t.rest);
        size = omega (arith, size, dropped, place);
        none = d.dry;
        last = last_feed left.dropped t.lines kept new.taken place;
      };
    }
