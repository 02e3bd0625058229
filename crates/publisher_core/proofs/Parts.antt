-- Lists of records, and the parts of the log of which they are made.
use Rattle.std.proofs.Common.{Some, None, Option, append_assoc, ◌≡◌, ℕ, List, [], ◌∷◌, ◌++◌, map, refl, sym, ap, subst, ◌∙◌, flat_map}
use Rattle.std.specs.List.{AllZip}
use Rattle.std.proofs.lemmas.List.{append-nil}
use Rattle.std.proofs.lemmas.List.Elements.{filter_map-append}
use Rattle.std.proofs.lemmas.Grind.{flat_map-append}
use Rattle.audit_records.specs.declared.line.AuditLine.{AuditLine}
use Rattle.audit_records.specs.Groups.{whole, HasGrouped as StandsForGroups}
use Rattle.audit_records.specs.Runs.{AreWholeRuns, BeginsAnew}
use Rattle.audit_records.proofs.Runs.{groups_of-runs}
use Rattle.publisher_core.specs.declared.gathering.AuditRecord.{AuditRecord}
use Rattle.publisher_core.specs.AuditParts.{Item, lines_in, groups_in, IsPart, IsPartBy, AreRecordsOf}
use Rattle.publisher_core.specs.Gathered.{skipped_line, lone}

anew_front : (before : List AuditLine) (front back : List (List AuditLine)) → BeginsAnew before (front ++ back) → BeginsAnew before front
anew_front before [] back anew = tt
anew_front before ([] ∷ front) back anew = anew
anew_front before ((line ∷ lines) ∷ front) back anew = anew

pub whole_front : (front back : List (List AuditLine)) → AreWholeRuns (front ++ back) → AreWholeRuns front
whole_front [] back runs = tt
whole_front (group ∷ front) back runs = (runs.0, (runs.1.0, (anew_front group front back runs.1.1.0, whole_front front back runs.1.1.1)))

pub whole_back : (front back : List (List AuditLine)) → AreWholeRuns (front ++ back) → AreWholeRuns back
whole_back [] back runs = runs
whole_back (group ∷ front) back runs = whole_back front back runs.1.1.1

-- the groups given so far are whole
pub whole_given : (groups : List (List AuditLine)) (lines held : List AuditLine) → StandsForGroups groups lines held → AreWholeRuns groups
whole_given groups lines held stands =
    whole_front groups (whole held) (subst AreWholeRuns (sym (stands [])) (groups_of-runs (lines ++ [])).runs)

pub groups_in-append : (front back : List AuditRecord) → groups_in (front ++ back) ≡ groups_in front ++ groups_in back
groups_in-append front back = filter_map-append (λ made. made.group) front back

pub lines_in-append : (front back : List Item) → lines_in (front ++ back) ≡ lines_in front ++ lines_in back
lines_in-append front back = filter_map-append (λ item. item.line) front back

-- the items are cut into the parts of these records
pub record AreParts (items : List Item) (records : List AuditRecord) : Type 0 where
  pub parts : List (List Item)
  pub joined : flat_map (λ part. part) parts ≡ items
  pub each : AllZip IsPart parts records

zip_append : (parts more : List (List Item)) (records others : List AuditRecord) → AllZip IsPart parts records → AllZip IsPart more others → AllZip IsPart (parts ++ more) (records ++ others)
zip_append [] more [] others zip last = last
zip_append [] more (made ∷ records) others zip last = absurd zip
zip_append (part ∷ parts) more [] others zip last = absurd zip
zip_append (part ∷ parts) more (made ∷ records) others zip last = (zip.0, zip_append parts more records others zip.1 last)

pub parts_append : {front back : List Item} {records others : List AuditRecord} → AreParts front records → AreParts back others → AreParts (front ++ back) (records ++ others)
parts_append {front = front} {back = back} {records = records} {others = others} first last = record {
  parts = first.parts ++ last.parts;
  joined = flat_map-append (λ part. part) first.parts last.parts ∙ ap (λ (items : List Item). items ++ flat_map (λ part. part) last.parts) first.joined ∙ ap (λ (items : List Item). front ++ items) last.joined;
  each = zip_append first.parts last.parts records others first.each last.each;
}

pub parts_one : (part : List Item) (made : AuditRecord) → IsPart part made → AreParts part (made ∷ [])
parts_one part made is = record { parts = part ∷ []; joined = append-nil part; each = (is, tt) }

pub parts_lone : (ends : List ℕ) → AreParts (map skipped_line ends) (map lone ends)
parts_lone [] = record { parts = []; joined = refl; each = tt }
parts_lone (end ∷ ends) = parts_append (parts_one (skipped_line end ∷ []) (lone end) (record { one = refl; skipped = refl })) (parts_lone ends)

pub groups_in-lone : (ends : List ℕ) → groups_in (map lone ends) ≡ []
groups_in-lone [] = refl
groups_in-lone (end ∷ ends) = groups_in-lone ends

pub lines_in-skipped : (ends : List ℕ) → lines_in (map skipped_line ends) ≡ []
lines_in-skipped [] = refl
lines_in-skipped (end ∷ ends) = lines_in-skipped ends

pub records_are : (items : List Item) (records : List AuditRecord) (lines held : List AuditLine) → AreParts items records → StandsForGroups (groups_in records) lines held → AreRecordsOf items records
records_are items records lines held cut stands = record { parts = cut.parts; joined = cut.joined; each = cut.each; whole = whole_given (groups_in records) lines held stands }

pub parts_of : {items : List Item} {records : List AuditRecord} → AreRecordsOf items records → AreParts items records
parts_of are = record { parts = are.parts; joined = are.joined; each = are.each }

-- A front and a back of the records are the records of a front and a back of the log.
pub record AreSplit (items : List Item) (front back : List AuditRecord) : Type 0 where
  pub items_front : List Item
  pub items_back : List Item
  pub joined : items_front ++ items_back ≡ items
  pub are_front : AreRecordsOf items_front front
  pub are_back : AreRecordsOf items_back back

record AreZipped (parts : List (List Item)) (front back : List AuditRecord) : Type 0 where
  first : List (List Item)
  last : List (List Item)
  joined : first ++ last ≡ parts
  zip_first : AllZip IsPart first front
  zip_last : AllZip IsPart last back

zip_split : (parts : List (List Item)) (front back : List AuditRecord) → AllZip IsPart parts (front ++ back) → AreZipped parts front back
zip_split parts [] back zip = record { first = []; last = parts; joined = refl; zip_first = tt; zip_last = zip }
zip_split [] (made ∷ front) back zip = absurd zip
zip_split (part ∷ parts) (made ∷ front) back zip =
    let rest = zip_split parts front back zip.1 in
    record { first = part ∷ rest.first; last = rest.last; joined = ap (λ (ps : List (List Item)). part ∷ ps) rest.joined; zip_first = (zip.0, rest.zip_first); zip_last = rest.zip_last }

pub records_split : (items : List Item) (front back : List AuditRecord) → AreRecordsOf items (front ++ back) → AreSplit items front back
records_split items front back are =
    let zipped = zip_split are.parts front back are.each in
    let runs = subst AreWholeRuns (groups_in-append front back) are.whole in
    record {
      items_front = flat_map (λ part. part) zipped.first;
      items_back = flat_map (λ part. part) zipped.last;
      joined = sym (flat_map-append (λ part. part) zipped.first zipped.last) ∙ ap (λ (ps : List (List Item)). flat_map (λ part. part) ps) zipped.joined ∙ are.joined;
      are_front = record { parts = zipped.first; joined = refl; each = zipped.zip_first; whole = whole_front (groups_in front) (groups_in back) runs };
      are_back = record { parts = zipped.last; joined = refl; each = zipped.zip_last; whole = whole_back (groups_in front) (groups_in back) runs };
    }

pub records_none : AreRecordsOf [] []
records_none = record { parts = []; joined = refl; each = tt; whole = tt }

-- one record's part is the log that it is the record of
pub one_part : (items : List Item) (made : AuditRecord) → AreRecordsOf items (made ∷ []) → IsPart items made
one_part items made are = by_parts are.parts are.joined are.each where
  by_parts : (parts : List (List Item)) → flat_map (λ part. part) parts ≡ items → AllZip IsPart parts (made ∷ []) → IsPart items made
  by_parts [] joined zip = absurd zip
  by_parts (part ∷ []) joined zip = subst (λ (all : List Item). IsPart all made) (sym (append-nil part) ∙ joined) zip.0
  by_parts (part ∷ (next ∷ parts)) joined zip = absurd zip.1

-- the last of the items ends at this offset
pub record EndsAt (items : List Item) (end : ℕ) : Type 0 where
  pub before : List Item
  pub line : Option AuditLine
  pub is : items ≡ before ++ record { line = line; end = end } ∷ []

part_end : (part : List Item) (made : AuditRecord) → IsPart part made → EndsAt part made.end
part_end part made is = by_group made.group is where
  by_group : (group : Option (List AuditLine)) → IsPartBy group part made → EndsAt part made.end
  by_group (Some group) in_group = record { before = in_group.ends.0; line = Some in_group.ends.1.0; is = in_group.ends.1.1 }
  by_group None alone = record { before = []; line = None; is = alone.one }

-- the last record ends where the log does
pub records_end : (items : List Item) (front : List AuditRecord) (made : AuditRecord) → AreRecordsOf items (front ++ made ∷ []) → EndsAt items made.end
records_end items front made are =
    let split = records_split items front (made ∷ []) are in
    let last = part_end split.items_back made (one_part split.items_back made split.are_back) in
    record {
      before = split.items_front ++ last.before;
      line = last.line;
      is = sym split.joined ∙ ap (λ (back : List Item). split.items_front ++ back) last.is ∙ sym (append_assoc split.items_front last.before (record { line = last.line; end = made.end } ∷ []));
    }
