-- What was found in the lines behind others is found in them by themselves.
use Rattle.std.proofs.Common.{◌≡◌, ℕ, ◌+◌, List, [], ◌∷◌, ◌++◌, length, take, refl, sym, ap, subst, ◌∙◌, arith, Option, Some, None}
use Rattle.std.specs.List.{AllZip}
use Rattle.std.proofs.lemmas.List.{append_cancel_left}
use Rattle.std.proofs.Math.Seq.{take-append_seam}
use Rattle.osq_value.specs.declared.source.SourceKind.{SourceKind}
use Rattle.osq_value.specs.declared.source.SourceKind.TheVariants.{Audit, Changes, Tables}
use Rattle.audit_records.specs.declared.line.AuditLine.{AuditLine}
use Rattle.publisher_core.specs.declared.gathering.AuditRecord.{AuditRecord}
use Rattle.publisher_core.specs.declared.record.Found.{Found}
use Rattle.publisher_core.specs.declared.record.Found.TheVariants as found
use Rattle.publisher_core.specs.declared.record.Raw.{Raw}
use Rattle.publisher_core.specs.Audit.{items_of}
use Rattle.publisher_core.specs.AuditParts.{AreRecordsOf, Item}
use Rattle.publisher_core.specs.Found.{Finds, IsChangeFound, IsFoundAs, IsTableFound, LinesAre, item_in, raw_of}
use Rattle.publisher_core.specs.Records.{ended}
use Rattle.publisher_core.proofs.Given.{as_many, front_lines, items_of-append, size_ended}
use Rattle.publisher_core.proofs.Parts.{records_split}

-- Where some records are those of a log, and with others those of a longer one, the others are those of the lines behind.
pub records_behind : (start : ℕ) (lines more : List (List ℕ)) (records others : List AuditRecord) → AreRecordsOf (items_of start lines) records → AreRecordsOf (items_of start (lines ++ more)) (records ++ others)
    → AreRecordsOf (items_of (start + length (ended lines)) more) others
records_behind start lines more records others own all =
    let split = records_split (items_of start (lines ++ more)) records others all in
    let size = as_many start lines split.items_front records own split.are_front in
    let front : items_of start lines ≡ split.items_front =
    ap (items_of start) (sym (take-append_seam lines more) ∙ ap (λ (n : ℕ). take n (lines ++ more)) (sym size))
    ∙ front_lines start (lines ++ more) split.items_front split.items_back split.joined in
    let back : split.items_back ≡ items_of (start + length (ended lines)) more =
    append_cancel_left split.items_front split.items_back (items_of (start + length (ended lines)) more)
    (split.joined ∙ items_of-append start lines more ∙ ap (λ (is : List Item). is ++ items_of (start + length (ended lines)) more) front) in
    subst (λ (is : List Item). AreRecordsOf is others) back split.are_back

item_same : (one other : Option (List AuditLine)) → item_in one ≡ item_in other → one ≡ other
item_same None None same = refl
item_same None (Some group) same = cc
item_same (Some group) None same = cc
item_same (Some group) (Some other) same = cc

abbrev made_with : Option (List AuditLine) → ℕ → ℕ → AuditRecord
made_with group skipped end = record { group = group; skipped = skipped; end = end }

abbrev raw_in : Found → Raw → Raw
raw_in (found.Record raw) other = raw
raw_in (found.Table own) other = other

made_same : (one other : AuditRecord) (this : Found) → IsFoundAs one this → IsFoundAs other this → one ≡ other
made_same one other this is_one is_other =
    let same : raw_of one ≡ raw_of other = ap (λ (f : Found). raw_in f (raw_of one)) (sym is_one ∙ is_other) in
    let group : one.group ≡ other.group = item_same one.group other.group (ap (λ (raw : Raw). raw.item) same) in
    let skipped : one.skipped ≡ other.skipped = ap (λ (raw : Raw). raw.skipped) same in
    let end : one.end ≡ other.end = ap (λ (raw : Raw). raw.end) same in
    ap (λ (g : Option (List AuditLine)). made_with g one.skipped one.end) group ∙ ap (λ (n : ℕ). made_with other.group n one.end) skipped ∙ ap (λ (n : ℕ). made_with other.group other.skipped n) end

-- the records of some finds, and of those behind them
record AreSplit (records own : List AuditRecord) (many : List Found) : Type 0 where
  back : List AuditRecord
  joined : own ++ back ≡ records
  each : AllZip IsFoundAs back many

made_split : (records own : List AuditRecord) (before many : List Found) → AllZip IsFoundAs own before → AllZip IsFoundAs records (before ++ many) → AreSplit records own many
made_split records [] [] many front all = record { back = records; joined = refl; each = all }
made_split records [] (one ∷ before) many front all = absurd front
made_split records (made ∷ own) [] many front all = absurd front
made_split [] (made ∷ own) (one ∷ before) many front all = absurd all
made_split (first ∷ records) (made ∷ own) (one ∷ before) many front all =
    let rest = made_split records own before many front.1 all.1 in
    record {
      back = rest.back;
      joined = ap (λ (rs : List AuditRecord). made ∷ rs) rest.joined ∙ ap (λ (m : AuditRecord). m ∷ records) (made_same made first one front.0 all.0);
      each = rest.each;
    }

lines_behind : (Is : List ℕ → ℕ → Found → Type 0) (start : ℕ) (lines more : List (List ℕ)) (before many : List Found) → LinesAre Is start lines before → LinesAre Is start (lines ++ more) (before ++ many)
    → LinesAre Is (start + length (ended lines)) more many
lines_behind Is start [] more [] many own all = subst (λ (at : ℕ). LinesAre Is at more many) (let at : start ≡ start + 0 = omega arith in at) all
lines_behind Is start [] more (one ∷ before) many own all = absurd own
lines_behind Is start (line ∷ lines) more [] many own all = absurd own
lines_behind Is start (line ∷ lines) more (one ∷ before) many own all =
    let size = size_ended line lines in
    let at : start + length line + 1 + length (ended lines) ≡ start + length (ended (line ∷ lines)) = omega (arith, size) in
    subst (λ (n : ℕ). LinesAre Is n more many) at (lines_behind Is (start + length line + 1) lines more before many own.1 all.1)

pub finds_behind : (kind : SourceKind) (start : ℕ) (lines more : List (List ℕ)) (before many : List Found) → Finds kind start lines before → Finds kind start (lines ++ more) (before ++ many)
    → Finds kind (start + length (ended lines)) more many
finds_behind Audit start lines more before many own all =
    let split = made_split all.records own.records before many own.each all.each in
    record {
      records = split.back;
      are = records_behind start lines more own.records split.back own.are (subst (AreRecordsOf (items_of start (lines ++ more))) (sym split.joined) all.are);
      each = split.each;
    }
finds_behind Changes start lines more before many own all = lines_behind IsChangeFound start lines more before many own all
finds_behind Tables start lines more before many own all = lines_behind IsTableFound start lines more before many own all
