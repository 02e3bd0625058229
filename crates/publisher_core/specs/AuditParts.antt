-- The records of an audit log: its groups, each with the skipped lines that stand between its lines, and the other skipped lines one by one.
use Rattle.std.specs.Prelude.{◌≡◌, ℕ, IsTrue, is_some, is_none, List, [], ◌∷◌, ◌++◌, length, Option, Some, None, flat_map}
use Rattle.std.specs.List.{filter, filter_map, AllZip}
use Rattle.audit_records.specs.declared.line.AuditLine.{AuditLine}
use Rattle.audit_records.specs.Runs.{AreWholeRuns}
use Rattle.publisher_core.specs.declared.gathering.AuditRecord.{AuditRecord}

-- a line of the log, as far as it is in the grammar of audit lines (None: it is skipped), and the stream's offset behind it
pub record Item : Type 0 where
  pub line : Option AuditLine
  pub end : ℕ

abbrev pub lines_in : List Item → List AuditLine
lines_in items = filter_map (λ item. item.line) items

abbrev pub skipped_in : List Item → ℕ
skipped_in items = length (filter (λ item. is_none item.line) items)

-- the first of the items is a line of the grammar
abbrev pub BeginsWithLine : List Item → Type 0
BeginsWithLine [] = ⊥
BeginsWithLine (item ∷ items) = IsTrue (is_some item.line)

-- the last of the items is a line of the grammar that ends at this offset
abbrev pub EndsWithLine : List Item → ℕ → Type 0
EndsWithLine items end = (before : List Item) × ((line : AuditLine) × (items ≡ before ++ record { line = Some line; end = end } ∷ []))

-- the part is the group of these lines, with the skipped lines between them
pub record IsGroupPart (part : List Item) (group : List AuditLine) (made : AuditRecord) : Type 0 where
  pub begins : BeginsWithLine part
  pub ends : EndsWithLine part made.end
  pub lines : lines_in part ≡ group
  pub skipped : made.skipped ≡ skipped_in part

-- the part is one skipped line
pub record IsLonePart (part : List Item) (made : AuditRecord) : Type 0 where
  pub one : part ≡ record { line = None; end = made.end } ∷ []
  pub skipped : made.skipped ≡ 1

abbrev pub IsPartBy : Option (List AuditLine) → List Item → AuditRecord → Type 0
IsPartBy (Some group) part made = IsGroupPart part group made
IsPartBy None part made = IsLonePart part made

-- the record is made of this part of the log
abbrev pub IsPart : List Item → AuditRecord → Type 0
IsPart part made = IsPartBy made.group part made

abbrev pub groups_in : List AuditRecord → List (List AuditLine)
groups_in records = filter_map (λ made. made.group) records

-- the log is cut into these records, and no group could be longer
pub record AreRecordsOf (items : List Item) (records : List AuditRecord) : Type 0 where
  pub parts : List (List Item)
  pub joined : flat_map (λ part. part) parts ≡ items
  pub each : AllZip IsPart parts records
  pub whole : AreWholeRuns (groups_in records)
