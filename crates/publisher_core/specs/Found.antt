-- The records of a source before a callback is asked about them, and what it gives for each.
use Rattle.std.specs.Prelude.{◌≡◌, ◌⊎◌, ℕ, ◌+◌, List, [], ◌∷◌, length, flat_map, Option, Some, None}
use Rattle.std.specs.Option.{option_to_list}
use Rattle.osq_value.specs.declared.reading.Category.{Category}
use Rattle.osq_value.specs.declared.source.SourceKind.{SourceKind}
use Rattle.osq_value.specs.declared.source.SourceKind.TheVariants.{Audit, Changes, Tables}
use Rattle.osq_value.specs.declared.value.Event.{Event}
use Rattle.audit_records.specs.declared.line.AuditLine.{AuditLine}
use Rattle.change_records.specs.declared.change.Change.{Change}
use Rattle.publisher_core.specs.declared.gathering.AuditRecord.{AuditRecord}
use Rattle.publisher_core.specs.declared.record.Found.{Found}
use Rattle.publisher_core.specs.declared.record.Found.TheVariants as found
use Rattle.publisher_core.specs.declared.record.Gain.{Gain}
use Rattle.publisher_core.specs.declared.record.Gain.TheVariants as gain
use Rattle.publisher_core.specs.declared.record.Raw.{Raw}
use Rattle.publisher_core.specs.declared.record.ReadRecord.{ReadRecord}
use Rattle.publisher_core.specs.declared.record.Record.{Record}
use Rattle.publisher_core.specs.declared.record.Record.TheVariants as item
use Rattle.publisher_core.specs.Audit.{AuditMakes}
use Rattle.publisher_core.specs.Records.{IsChangeLine, IsEventOfRecord, TableGives}

-- what a callback is given of a record of an audit log: its group, and nothing of a skipped line by itself
abbrev pub item_in : Option (List AuditLine) → Option Record
item_in None = None
item_in (Some group) = Some (item.Group group)

abbrev pub raw_of : AuditRecord → Raw
raw_of made = record { item = item_in made.group; skipped = made.skipped; end = made.end }

abbrev pub IsFoundAs : AuditRecord → Found → Type 0
IsFoundAs made one = one ≡ found.Record (raw_of made)

-- a line of changes, which ends at this offset, is a change; every other line is skipped
abbrev pub IsChangeRaw : List ℕ → ℕ → Raw → Type 0
IsChangeRaw line end raw =
    ((change : Change) × IsChangeLine line change × (raw ≡ record { item = Some (item.Change change); skipped = 0; end = end }))
    ⊎ (((change : Change) → IsChangeLine line change → ⊥) × (raw ≡ record { item = None; skipped = 1; end = end }))

abbrev pub IsChangeFound : List ℕ → ℕ → Found → Type 0
IsChangeFound line end one = (raw : Raw) × IsChangeRaw line end raw × (one ≡ found.Record raw)

-- a line of tables, which ends at this offset, has its gain by itself
abbrev pub IsTableFound : List ℕ → ℕ → Found → Type 0
IsTableFound line end one = (given : Gain) × TableGives line given × (one ≡ found.Table (record { gain = given; end = end }))

-- what lines are one by one, where the first begins at this offset
abbrev pub LinesAre : (List ℕ → ℕ → Found → Type 0) → ℕ → List (List ℕ) → List Found → Type 0
LinesAre is start [] [] = Unit {0}
LinesAre is start [] (one ∷ found) = ⊥
LinesAre is start (line ∷ lines) [] = ⊥
LinesAre is start (line ∷ lines) (one ∷ found) = is line (start + length line + 1) one × LinesAre is (start + length line + 1) lines found

-- what is found in the lines of a source, record by record, where the first line begins at this offset
abbrev pub Finds : SourceKind → ℕ → List (List ℕ) → List Found → Type 0
Finds Audit start lines found = AuditMakes IsFoundAs start lines found
Finds Changes start lines found = LinesAre IsChangeFound start lines found
Finds Tables start lines found = LinesAre IsTableFound start lines found

-- the event that a callback gives, which isn't asked about a skipped line
abbrev pub IsEventOfItem : List Category → Option Record → Option Event → Type 0
IsEventOfItem paths None event = event ≡ None
IsEventOfItem paths (Some one) event = IsEventOfRecord paths one event

-- what is given for a record by a callback
abbrev pub IsGainOf : List Category → Raw → ReadRecord → Type 0
IsGainOf paths raw piece = (event : Option Event) × IsEventOfItem paths raw.item event × (piece ≡ record { gain = gain.Event event raw.skipped; end = raw.end })

-- what is given for what was found
abbrev pub IsGiven : List Category → Found → ReadRecord → Type 0
IsGiven paths (found.Record raw) piece = IsGainOf paths raw piece
IsGiven paths (found.Table own) piece = piece ≡ own

-- the records that a callback is asked about
abbrev pub item_of : Found → List Record
item_of (found.Record raw) = option_to_list raw.item
item_of (found.Table own) = []

abbrev pub items_found : List Found → List Record
items_found found = flat_map item_of found
