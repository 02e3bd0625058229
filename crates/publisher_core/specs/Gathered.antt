-- What a gathering of records stands for.
use Rattle.std.specs.Prelude.{◌≡◌, ℕ, Bool, true, false, List, [], ◌∷◌, ◌++◌, map, Some, None}
use Rattle.audit_records.specs.declared.line.AuditLine.{AuditLine}
use Rattle.audit_records.specs.Groups.{is_ended, HasGrouped as StandsForGroups}
use Rattle.publisher_core.specs.declared.gathering.AuditRecord.{AuditRecord}
use Rattle.publisher_core.specs.declared.gathering.Gathering.{Gathering}
use Rattle.publisher_core.specs.AuditParts.{Item, lines_in, skipped_in, BeginsWithLine, EndsWithLine, groups_in, AreRecordsOf}

abbrev pub skipped_line : ℕ → Item
skipped_line end = record { line = None; end = end }

-- one skipped line, as a record
abbrev pub lone : ℕ → AuditRecord
lone end = record { group = None; skipped = 1; end = end }

-- The records where this group ends, which is that of the held lines: the group, and each skipped line that waits behind it.
abbrev pub ended_records : Gathering → List AuditLine → List AuditRecord
ended_records gathering group = record { group = Some group; skipped = gathering.inside; end = gathering.last } ∷ map lone gathering.behind.items

abbrev pub IsBody : Bool → List Item → Gathering → Type 0
IsBody true body gathering = BeginsWithLine body × EndsWithLine body gathering.last
IsBody false body gathering = (body ≡ []) × (gathering.behind.items ≡ [])

-- The gathering holds these items: the lines of a group, with the skipped lines between them, and skipped lines that wait behind the
-- group. Where it holds no group it holds nothing.
pub record Holds (held : List Item) (gathering : Gathering) : Type 0 where
  pub body : List Item
  pub joined : body ++ map skipped_line gathering.behind.items ≡ held
  pub is_body : IsBody gathering.holds body gathering
  pub lines : lines_in body ≡ gathering.builder
  pub skipped : gathering.inside ≡ skipped_in body

pub record HoldsNothing (gathering : Gathering) : Type 0 where
  pub none : gathering.holds ≡ false
  pub lines : gathering.builder ≡ []
  pub skipped : gathering.inside ≡ 0
  pub behind : gathering.behind.items ≡ []

-- The items of the log are those of the records given and those that are held, and whatever lines come, the groups given and those of the
-- lines that are held and come are the groups of all lines.
pub record Keeps (given : List AuditRecord) (items : List Item) (gathering : Gathering) : Type 0 where
  pub front : List Item
  pub held : List Item
  pub joined : front ++ held ≡ items
  pub records : AreRecordsOf front given
  pub holds : Holds held gathering
  pub groups : StandsForGroups (groups_in given) (lines_in items) gathering.builder

-- These records were given for these items, as soon as each was known to be whole: a group that is held can still go on.
pub record HasGathered (given : List AuditRecord) (items : List Item) (gathering : Gathering) : Type 0 where
  pub keeps : Keeps given items gathering
  pub unended : is_ended gathering.builder ≡ false

-- records were added behind those before, and this holds of them
abbrev pub Gains : (List AuditRecord → Type 0) → List AuditRecord → List AuditRecord → Type 0
Gains OfThem before after = (gained : List AuditRecord) × ((after ≡ before ++ gained) × OfThem gained)

-- The item was taken behind those before it: what it completes was added to the records before.
abbrev pub Takes : Item → Gathering → Gathering → List AuditRecord → List AuditRecord → Type 0
Takes item old new before after = (given : List AuditRecord) → (items : List Item) → HasGathered given items old → Gains (λ gained. HasGathered (given ++ gained) (items ++ item ∷ []) new) before after

-- The log is at its end: the rest of its records was added, nothing is held, and what comes is a log of its own.
abbrev pub Finishes : Gathering → Gathering → List AuditRecord → List AuditRecord → Type 0
Finishes old new before after = (given : List AuditRecord) → (items : List Item) → HasGathered given items old → Gains (λ gained. AreRecordsOf items (given ++ gained) × (HoldsNothing new × HasGathered [] [] new)) before after

-- A group whose last line ended it itself is held no longer.
abbrev pub Closes : Gathering → Gathering → List AuditRecord → List AuditRecord → Type 0
Closes old new before after = (given : List AuditRecord) → (items : List Item) → Keeps given items old → Gains (λ gained. HasGathered (given ++ gained) items new) before after
