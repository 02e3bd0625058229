-- What a step of a publisher does.
use Rattle.std.specs.Prelude.{◌≡◌, ◌⊎◌, ℕ, ◌+◌, ◌≤◌, ◌<◌, true, List, [], ◌∷◌, ◌++◌, length, Option, MatchOption}
use Rattle.record_lines.specs.Limits.{STEP_BYTES}
use Rattle.record_lines.specs.Lines.{HasNoFeed}
use Rattle.record_lines.specs.Cutting.{TakesLine}
use Rattle.record_lines.specs.declared.line.Cut.{Cut}
use Rattle.audit_records.specs.Groups.{groups_of, whole}
use Rattle.publisher_core.specs.declared.gathering.AuditRecord.{AuditRecord}
use Rattle.osq_value.specs.declared.source.SourceKind.{SourceKind}
use Rattle.osq_value.specs.declared.source.SourceKind.TheVariants.{Audit, Changes, Tables}
use Rattle.publisher_core.specs.Audit.{items_of}
use Rattle.publisher_core.specs.AuditParts.{AreRecordsOf, groups_in, lines_in}
use Rattle.publisher_core.specs.Records.{ended}
use Rattle.publisher_core.specs.declared.record.Found.{Found}
use Rattle.publisher_core.specs.declared.record.ReadRecord.{ReadRecord}
use Rattle.publisher_core.specs.declared.record.Next.{Next}
use Rattle.publisher_core.specs.declared.record.Next.TheVariants as next
use Rattle.publisher_core.specs.Standing.{Reader, HasMade, HasFound, GivenBy, KeptBy, FoundBy, HeldBy}

-- The lines that are held stand behind all records: in an audit log they have the last group of the lines, which may go on; of other
-- sources no line is held.
abbrev pub HoldsLast : SourceKind → ℕ → List (List ℕ) → List (List ℕ) → Type 0
HoldsLast Audit start lines held = (records : List AuditRecord) × AreRecordsOf (items_of start lines) records
    × (groups_of (lines_in (items_of start (lines ++ held))) ≡ groups_in records ++ whole (lines_in (items_of (start + length (ended lines)) held)))
HoldsLast Changes start lines held = held ≡ []
HoldsLast Tables start lines held = held ≡ []

-- no line that was read is left, but those of a record that may go on; at the source's end none at all
pub record IsEmpty {Thing : Type 0} (Makes : Reader → ℕ → List (List ℕ) → List Thing → Type 0) (Keeps : Reader → List Thing → ℕ → List (List ℕ) → List (List ℕ) → Type 0) (reader : Reader) (given : List Thing) (start : ℕ) (stream : List ℕ) : Type 0 where
  pub stands : HasMade Makes Keeps reader given start stream
  pub none : reader.ready ≡ []
  pub dry : HasNoFeed stands.rest
  pub last : HoldsLast reader.kind start stands.lines stands.held
  pub all : reader.is_ended ≡ true → stands.held ≡ []

abbrev pub IsDry : Reader → List ReadRecord → ℕ → List ℕ → Type 0
IsDry reader given start stream = IsEmpty GivenBy KeptBy reader given start stream

abbrev pub IsDrained : Reader → List Found → ℕ → List ℕ → Type 0
IsDrained reader found start stream = IsEmpty FoundBy HeldBy reader found start stream

-- one more record was found, or one more line was taken in, or no line is left
abbrev pub Goes : Reader → List Found → ℕ → List ℕ → Next → Type 0
Goes reader given start stream (next.Whole piece) = HasFound reader (given ++ piece ∷ []) start stream
Goes reader given start stream next.More = HasFound reader given start stream
Goes reader given start stream next.Nothing = IsDrained reader given start stream

-- it is a publisher of the same source, and no call on it has refused in between
pub record SameSource (old new : Reader) : Type 0 where
  pub kind : new.kind ≡ old.kind
  pub paths : new.paths ≡ old.paths
  pub is_begun : new.is_begun ≡ old.is_begun
  pub is_spent : new.is_spent ≡ old.is_spent

-- the offset grows with a record that is given, and stands still else
abbrev pub Grows : ℕ → ℕ → Next → Type 0
Grows before after (next.Whole piece) = before < after
Grows before after next.More = after ≡ before
Grows before after next.Nothing = after ≡ before

-- it grows exactly where the list has something
abbrev pub GrowsBy : {X : Type 0} → ℕ → ℕ → List X → Type 0
GrowsBy before after [] = after ≡ before
GrowsBy before after (x ∷ xs) = before < after

-- a line was taken off the cutter, and not yet further
pub record TakesCut (before reader : Reader) (given : List Found) (start : ℕ) (stream : List ℕ) (cut : Cut) : Type 0 where
  pub stands : HasFound before given start stream
  pub same : reader ≡ record before { cutter = reader.cutter }
  pub line : TakesLine before.cutter reader.cutter (start + length (ended (stands.lines ++ stands.held))) stands.rest cut

-- one more piece of the source was read
pub record Reads (tells : Type 0) (before after : List ℕ) (reader : Reader) (given : List Found) (start : ℕ) (stream : List ℕ) (count : ℕ) : Type 0 where
  pub fresh : List ℕ
  pub size : length fresh ≡ count
  pub left : tells → before ≡ fresh ++ after
  pub stands : HasFound reader given start (stream ++ fresh)

-- A step found one more, or no line is left, as far as it may read. It had read so many bytes before, and has read as many now.
pub record FindsNext (tells : Type 0) (before after : List ℕ) (reader : Reader) (given : List Found) (start : ℕ) (stream : List ℕ) (had has : ℕ) (next : Option Found) : Type 0 where
  pub fresh : List ℕ
  pub size : had + length fresh ≡ has
  pub left : tells → before ≡ fresh ++ after
  pub found : MatchOption next (IsDrained reader given start (stream ++ fresh) × ((reader.is_ended ≡ true) ⊎ (STEP_BYTES ≤ has))) (λ one. HasFound reader (given ++ one ∷ []) start (stream ++ fresh))

-- records were found, by as many as may be, of the lines read before and in this step
pub record UnderWay (tells : Type 0) (before after : List ℕ) (reader : Reader) (given : List Found) (start : ℕ) (stream : List ℕ) (pieces : List Found) (read : ℕ) : Type 0 where
  pub fresh : List ℕ
  pub size : length fresh ≡ read
  pub left : tells → before ≡ fresh ++ after
  pub stands : HasFound reader (given ++ pieces) start (stream ++ fresh)

-- A step gave so many records. The source, where it tells its bytes, has so many less. Fewer records than it may give it gives only at
-- the source's end, or when it has read enough; then no line that was read is left, but those of a record that may go on, and at the
-- source's end none at all.
pub record Advances {Thing : Type 0} (Makes : Reader → ℕ → List (List ℕ) → List Thing → Type 0) (Keeps : Reader → List Thing → ℕ → List (List ℕ) → List (List ℕ) → Type 0) (tells : Type 0) (before after : List ℕ) (reader : Reader) (given : List Thing) (start : ℕ) (stream : List ℕ) (pieces : List Thing) (most : ℕ) : Type 0 where
  pub fresh : List ℕ
  pub left : tells → before ≡ fresh ++ after
  pub stands : HasMade Makes Keeps reader (given ++ pieces) start (stream ++ fresh)
  pub count : length pieces ≤ most
  pub full : (length pieces ≡ most) ⊎ (IsEmpty Makes Keeps reader (given ++ pieces) start (stream ++ fresh) × ((reader.is_ended ≡ true) ⊎ (STEP_BYTES ≤ length fresh)))

-- a step gave these, by a callback
abbrev pub Steps : Type 0 → List ℕ → List ℕ → Reader → List ReadRecord → ℕ → List ℕ → List ReadRecord → ℕ → Type 0
Steps tells before after reader given start stream pieces most = Advances GivenBy KeptBy tells before after reader given start stream pieces most

-- a step found these
abbrev pub StepFinds : Type 0 → List ℕ → List ℕ → Reader → List Found → ℕ → List ℕ → List Found → ℕ → Type 0
StepFinds tells before after reader given start stream found most = Advances FoundBy HeldBy tells before after reader given start stream found most
