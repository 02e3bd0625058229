-- How many lines records have.
use Rattle.std.proofs.Common.{◌≡◌, ℕ, suc, ◌+◌, ◌≤◌, List, [], ◌∷◌, length, flat_map, refl, ap, arith, length-append, Option, Some, None}
use Rattle.std.specs.List.{AllZip}
use Rattle.std.proofs.lemmas.Slice.Zip.{AllZip-long}
use Rattle.osq_value.specs.declared.reading.Category.{Category}
use Rattle.osq_value.specs.declared.source.SourceKind.{SourceKind}
use Rattle.osq_value.specs.declared.source.SourceKind.TheVariants.{Audit, Changes, Tables}
use Rattle.audit_records.specs.declared.line.AuditLine.{AuditLine}
use Rattle.publisher_core.specs.declared.gathering.AuditRecord.{AuditRecord}
use Rattle.publisher_core.specs.declared.record.Gain.{Gain}
use Rattle.publisher_core.specs.declared.record.ReadRecord.{ReadRecord}
use Rattle.publisher_core.specs.Audit.{AuditGives, IsPieceOf}
use Rattle.publisher_core.specs.AuditParts.{Item, IsPart, IsPartBy}
use Rattle.publisher_core.specs.Records.{LinesGive, ChangeGives, TableGives}
use Rattle.publisher_core.specs.Standing.{Gives}
use Rattle.publisher_core.proofs.Given.{length-items}

-- a part of a log has an item
some_item : (part : List Item) (made : AuditRecord) → IsPart part made → 1 ≤ length part
some_item (item ∷ part) made is = omega arith
some_item [] made is = by_group made.group is where
  by_group : (group : Option (List AuditLine)) → IsPartBy group [] made → 1 ≤ 0
  by_group (Some group) part = absurd part.begins
  by_group None part = let size = ap length part.one in omega (arith, size)

few_parts : (parts : List (List Item)) (records : List AuditRecord) → AllZip IsPart parts records → length parts ≤ length (flat_map (λ (part : List Item). part) parts)
few_parts [] records zip = omega arith
few_parts (part ∷ parts) [] zip = absurd zip
few_parts (part ∷ parts) (made ∷ records) zip =
    let one = some_item part made zip.0 in
    let rest = few_parts parts records zip.1 in
    let size = length-append part (flat_map (λ (part : List Item). part) parts) in
    omega (arith, one, rest, size)

audit_pieces : (start : ℕ) (lines : List (List ℕ)) (pieces : List ReadRecord) → AuditGives start lines pieces → length pieces ≤ length lines
audit_pieces start lines pieces gives =
    let one = AllZip-long IsPieceOf gives.records pieces gives.each in
    let two = AllZip-long IsPart gives.are.parts gives.records gives.are.each in
    let few = few_parts gives.are.parts gives.records gives.are.each in
    let all = ap length gives.are.joined in
    let items = length-items start lines in
    omega (arith, one, two, few, all, items)

line_pieces : (gives : List ℕ → Gain → Type 0) (start : ℕ) (lines : List (List ℕ)) (pieces : List ReadRecord) → LinesGive gives start lines pieces → length pieces ≡ length lines
line_pieces gives start [] [] all = refl
line_pieces gives start [] (piece ∷ pieces) all = absurd all
line_pieces gives start (line ∷ lines) [] all = absurd all
line_pieces gives start (line ∷ lines) (piece ∷ pieces) all = ap suc (line_pieces gives (start + length line + 1) lines pieces all.2)

-- each record has a line of its own
pub few_pieces : (kind : SourceKind) (paths : List Category) (start : ℕ) (lines : List (List ℕ)) (pieces : List ReadRecord) → Gives kind paths start lines pieces → length pieces ≤ length lines
few_pieces Audit paths start lines pieces gives = audit_pieces start lines pieces gives
few_pieces Changes paths start lines pieces gives = let same = line_pieces (ChangeGives paths) start lines pieces gives in omega (arith, same)
few_pieces Tables paths start lines pieces gives = let same = line_pieces TableGives start lines pieces gives in omega (arith, same)
