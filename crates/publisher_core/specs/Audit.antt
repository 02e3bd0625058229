-- What the lines of an audit log give.
use Rattle.std.specs.Prelude.{◌≡◌, ℕ, ◌+◌, nat_le, if◌then◌else◌, List, [], ◌∷◌, length, Option, Some, None}
use Rattle.std.specs.List.{AllZip}
use Rattle.osq_value.specs.declared.value.Event.{Event}
use Rattle.audit_records.specs.declared.line.AuditLine.{AuditLine}
use Rattle.audit_records.specs.Events.{event_of}
use Rattle.audit_records.specs.Lines.{line_of}
use Rattle.publisher_core.specs.declared.gathering.AuditRecord.{AuditRecord}
use Rattle.publisher_core.specs.declared.record.Gain.TheVariants as gain
use Rattle.publisher_core.specs.declared.record.ReadRecord.{ReadRecord}
use Rattle.publisher_core.specs.AuditParts.{Item, AreRecordsOf}
use Rattle.record_lines.specs.Limits.{LINE_LIMIT}

-- the line, where it is in the grammar and no longer than a line may be
abbrev pub line_in : List ℕ → Option AuditLine
line_in line = if nat_le (length line) LINE_LIMIT then line_of line else None

-- the lines of a log, where the first begins at this offset
abbrev pub items_of : ℕ → List (List ℕ) → List Item
items_of start [] = []
items_of start (line ∷ lines) = record { line = line_in line; end = start + length line + 1 } ∷ items_of (start + length line + 1) lines

-- a skipped line has no event, and a group has its own or none
abbrev pub event_in : Option (List AuditLine) → Option Event
event_in None = None
event_in (Some group) = event_of group

abbrev pub IsPieceOf : AuditRecord → ReadRecord → Type 0
IsPieceOf made piece = piece ≡ record { gain = gain.Event (event_in made.group) made.skipped; end = made.end }

-- the lines are cut into records, and of each one thing is made
pub record AuditMakes {Thing : Type 0} (IsMade : AuditRecord → Thing → Type 0) (start : ℕ) (lines : List (List ℕ)) (things : List Thing) : Type 0 where
  pub records : List AuditRecord
  pub are : AreRecordsOf (items_of start lines) records
  pub each : AllZip IsMade records things

-- the lines are cut into records, and each gives what it gives
abbrev pub AuditGives : ℕ → List (List ℕ) → List ReadRecord → Type 0
AuditGives start lines pieces = AuditMakes IsPieceOf start lines pieces
