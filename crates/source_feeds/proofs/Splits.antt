-- What the lines of a step give, taken by themselves.
use Rattle.std.proofs.Common.{◌≡◌, ℕ, ◌+◌, List, [], ◌∷◌, ◌++◌, length, take, drop, flat_map, refl, sym, ap, subst, ◌∙◌, arith}
use Rattle.std.specs.List.{AllZip}
use Rattle.std.proofs.lemmas.List.{append_cancel_left, take-append-drop}
use Rattle.osq_value.specs.declared.reading.Category.{Category}
use Rattle.audit_records.specs.declared.line.AuditLine.{AuditLine}
use Rattle.audit_records.specs.Groups.{groups_of}
use Rattle.publisher_core.specs.declared.gathering.AuditRecord.{AuditRecord}
use Rattle.publisher_core.specs.declared.record.Gain.{Gain}
use Rattle.publisher_core.specs.declared.record.ReadRecord.{ReadRecord}
use Rattle.osq_value.specs.declared.source.SourceKind.{SourceKind}
use Rattle.osq_value.specs.declared.source.SourceKind.TheVariants.{Audit, Changes, Tables}
use Rattle.publisher_core.specs.Audit.{items_of, AuditGives, IsPieceOf}
use Rattle.publisher_core.specs.AuditParts.{Item, AreRecordsOf, IsPart, groups_in, lines_in}
use Rattle.publisher_core.specs.Records.{ended, LinesGive, ChangeGives, TableGives}
use Rattle.publisher_core.specs.Standing.{Gives}
use Rattle.publisher_core.proofs.Given.{front_lines, items_of-append, last_end, size_ended}
use Rattle.publisher_core.proofs.Only.{groups_of_log}
use Rattle.publisher_core.proofs.Parts.{AreSplit, groups_in-append, records_end, records_split}
use Rattle.source_feeds.proofs.Cuts.{same_lines}

-- the records of some pieces, and of those behind them
pub record AreZipped (records : List AuditRecord) (given pieces : List ReadRecord) : Type 0 where
  pub front : List AuditRecord
  pub back : List AuditRecord
  pub joined : front ++ back ≡ records
  pub each_front : AllZip IsPieceOf front given
  pub each_back : AllZip IsPieceOf back pieces

pub zip_split : (records : List AuditRecord) (given pieces : List ReadRecord) → AllZip IsPieceOf records (given ++ pieces) → AreZipped records given pieces
zip_split records [] pieces zip = record { front = []; back = records; joined = refl; each_front = tt; each_back = zip }
zip_split [] (piece ∷ given) pieces zip = absurd zip
zip_split (made ∷ records) (piece ∷ given) pieces zip =
    let rest = zip_split records given pieces zip.1 in
    record { front = made ∷ rest.front; back = rest.back; joined = ap (λ (rs : List AuditRecord). made ∷ rs) rest.joined; each_front = (zip.0, rest.each_front); each_back = rest.each_back }

-- the last record of some pieces ends where the last piece does
record LastRecord (records : List AuditRecord) (last : ReadRecord) : Type 0 where
  front : List AuditRecord
  made : AuditRecord
  is : records ≡ front ++ made ∷ []
  end : made.end ≡ last.end

zip_last : (records : List AuditRecord) (before : List ReadRecord) (last : ReadRecord) → AllZip IsPieceOf records (before ++ last ∷ []) → LastRecord records last
zip_last records before last zip = by_back split.back split.each_back split.joined where
  split : AreZipped records before (last ∷ [])
  split = zip_split records before (last ∷ []) zip

  by_back : (back : List AuditRecord) → AllZip IsPieceOf back (last ∷ []) → split.front ++ back ≡ records → LastRecord records last
  by_back [] each joined = absurd each
  by_back (made ∷ []) each joined = record { front = split.front; made = made; is = sym joined; end = ap (λ (piece : ReadRecord). piece.end) (sym each.0) }
  by_back (made ∷ next ∷ back) each joined = absurd each.1

-- the last record of the lines of a log ends where they do
pub records_place : (start : ℕ) (lines : List (List ℕ)) (records : List AuditRecord) (before : List ReadRecord) (last : ReadRecord) → AreRecordsOf (items_of start lines) records → AllZip IsPieceOf records (before ++ last ∷ []) → last.end ≡ start + length (ended lines)
records_place start lines records before last are zip =
    let z = zip_last records before last zip in
    let ends = records_end (items_of start lines) z.front z.made (subst (AreRecordsOf (items_of start lines)) z.is are) in
    sym z.end ∙ last_end start lines ends.before (record { line = ends.line; end = z.made.end }) ends.is

pub no_records : (records : List AuditRecord) → AllZip IsPieceOf records [] → records ≡ []
no_records [] zip = refl
no_records (made ∷ records) zip = absurd zip

pub no_items : (items : List Item) (records : List AuditRecord) → records ≡ [] → AreRecordsOf items records → items ≡ []
no_items items records none are = by_parts are.parts (subst (λ (rs : List AuditRecord). AllZip IsPart are.parts rs) none are.each) are.joined where
  by_parts : (parts : List (List Item)) → AllZip IsPart parts [] → flat_map (λ part. part) parts ≡ items → items ≡ []
  by_parts [] zip joined = sym joined
  by_parts (part ∷ parts) zip joined = absurd zip

-- a list that has a first item has a last one
pub has_last : {X : Type 0} → (first : X) (xs : List X) → (before : List X) × (last : X) × (first ∷ xs ≡ before ++ last ∷ [])
has_last first [] = ([], first, refl)
has_last {X = X} first (next ∷ xs) = let rest = has_last next xs in (first ∷ rest.0, rest.1, ap (λ (ys : List X). first ∷ ys) rest.2)

-- the items of the first pieces are those of the first lines
front_items : (start : ℕ) (lines more : List (List ℕ)) (given pieces : List ReadRecord) (own : AuditGives start lines given)
    → (all : AuditGives start (lines ++ more) (given ++ pieces)) (both : AreZipped all.records given pieces) → (split : AreSplit (items_of start (lines ++ more)) both.front both.back) → split.items_front ≡ items_of start lines
front_items start lines more [] pieces own all both split =
    no_items split.items_front both.front (no_records both.front both.each_front) split.are_front ∙ sym (no_items (items_of start lines) own.records (no_records own.records own.each) own.are)
front_items start lines more (first ∷ given) pieces own all both split =
    let last = has_last first given in
    let size = length split.items_front in
    let items = front_lines start (lines ++ more) split.items_front split.items_back split.joined in
    let here : last.1.end ≡ start + length (ended lines) = records_place start lines own.records last.0 last.1 own.are (subst (AllZip IsPieceOf own.records) last.2 own.each) in
    let there : last.1.end ≡ start + length (ended (take size (lines ++ more))) =
    records_place start (take size (lines ++ more)) both.front last.0 last.1 (subst (λ (is : List Item). AreRecordsOf is both.front) (sym items) split.are_front) (subst (AllZip IsPieceOf both.front) last.2 both.each_front) in
    let same = same_lines (take size (lines ++ more)) lines (drop size (lines ++ more)) more (take-append-drop size (lines ++ more)) (omega (arith, here, there)) in
    sym items ∙ ap (items_of start) same

-- the records of the lines behind others, and the groups of all of them
pub record AuditBehind (start : ℕ) (lines more : List (List ℕ)) (pieces : List ReadRecord) : Type 0 where
  pub gives : AuditGives (start + length (ended lines)) more pieces
  pub before : List (List AuditLine)
  pub groups : groups_of (lines_in (items_of start (lines ++ more))) ≡ before ++ groups_of (lines_in (items_of (start + length (ended lines)) more))

pub audit_split : (start : ℕ) (lines more : List (List ℕ)) (given pieces : List ReadRecord) → AuditGives start lines given → AuditGives start (lines ++ more) (given ++ pieces) → AuditBehind start lines more pieces
audit_split start lines more given pieces own all =
    let both = zip_split all.records given pieces all.each in
    let are = subst (AreRecordsOf (items_of start (lines ++ more))) (sym both.joined) all.are in
    let split = records_split (items_of start (lines ++ more)) both.front both.back are in
    let front = front_items start lines more given pieces own all both split in
    let back : split.items_back ≡ items_of (start + length (ended lines)) more =
    append_cancel_left (items_of start lines) split.items_back (items_of (start + length (ended lines)) more) (ap (λ (is : List Item). is ++ split.items_back) (sym front) ∙ split.joined ∙ items_of-append start lines more) in
    let are_back = subst (λ (is : List Item). AreRecordsOf is both.back) back split.are_back in
    record {
      gives = record { records = both.back; are = are_back; each = both.each_back };
      before = groups_in both.front;
      groups = sym (groups_of_log (items_of start (lines ++ more)) (both.front ++ both.back) are) ∙ groups_in-append both.front both.back
          ∙ ap (λ (gs : List (List AuditLine)). groups_in both.front ++ gs) (groups_of_log (items_of (start + length (ended lines)) more) both.back are_back);
    }

lines_split : (gives : List ℕ → Gain → Type 0) (start : ℕ) (lines more : List (List ℕ)) (given pieces : List ReadRecord) → LinesGive gives start lines given → LinesGive gives start (lines ++ more) (given ++ pieces) → LinesGive gives (start + length (ended lines)) more pieces
lines_split gives start [] more [] pieces own all = subst (λ (at : ℕ). LinesGive gives at more pieces) (let at : start ≡ start + 0 = omega arith in at) all
lines_split gives start [] more (piece ∷ given) pieces own all = absurd own
lines_split gives start (line ∷ lines) more [] pieces own all = absurd own
lines_split gives start (line ∷ lines) more (piece ∷ given) pieces own all =
    let size = size_ended line lines in
    let at : start + length line + 1 + length (ended lines) ≡ start + length (ended (line ∷ lines)) = omega (arith, size) in
    subst (λ (n : ℕ). LinesGive gives n more pieces) at (lines_split gives (start + length line + 1) lines more given pieces own.2 all.2)

-- what the lines behind others give
pub gives_split : (kind : SourceKind) (paths : List Category) (start : ℕ) (lines more : List (List ℕ)) (given pieces : List ReadRecord) → Gives kind paths start lines given → Gives kind paths start (lines ++ more) (given ++ pieces)
    → Gives kind paths (start + length (ended lines)) more pieces
gives_split Audit paths start lines more given pieces own all = (audit_split start lines more given pieces own all).gives
gives_split Changes paths start lines more given pieces own all = lines_split (ChangeGives paths) start lines more given pieces own all
gives_split Tables paths start lines more given pieces own all = lines_split TableGives start lines more given pieces own all
