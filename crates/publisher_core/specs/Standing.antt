-- What a publisher stands for.
use Rattle.std.specs.Prelude.{◌≡◌, ℕ, ◌+◌, Bool, true, false, ◌&&◌, ◌==◌, List, [], ◌++◌, length}
use Rattle.std.specs.List.{AllZip}
use Rattle.osq_value.specs.declared.reading.Category.{Category}
use Rattle.record_lines.specs.Cutting.{Cutter}
use Rattle.record_lines.specs.Cutting as cutting
use Rattle.record_lines.specs.Lines.{HasNoFeed}
use Rattle.publisher_core.specs.declared.gathering.AuditRecord.{AuditRecord}
use Rattle.publisher_core.specs.declared.gathering.Gathering.{Gathering}
use Rattle.osq_value.specs.declared.source.SourceKind.{SourceKind}
use Rattle.osq_value.specs.declared.source.SourceKind.TheVariants.{Audit, Changes, Tables}
use Rattle.publisher_core.specs.declared.record.Found.{Found}
use Rattle.publisher_core.specs.declared.record.ReadRecord.{ReadRecord}
use Rattle.publisher_core.specs.AuditParts.{AreRecordsOf}
use Rattle.publisher_core.specs.Gathered as gathered
use Rattle.publisher_core.specs.Audit.{items_of, AuditGives, IsPieceOf}
use Rattle.publisher_core.specs.Found.{Finds, IsFoundAs}
use Rattle.record_lines.specs.Limits.{LINE_LIMIT}
use Rattle.publisher_core.specs.Records.{TABLE_LIMIT, ended, HaveNoFeed, LinesGive, ChangeGives, TableGives}

-- what contracts see of a publisher
pub record Reader : Type 0 where
  pub kind : SourceKind
  pub paths : List Category
  pub taken : ℕ
  pub cutter : Cutter
  pub gathering : Gathering
  pub ready : List AuditRecord
  pub is_begun : Bool
  pub is_ended : Bool
  pub is_spent : Bool

abbrev pub limit_of : SourceKind → ℕ
limit_of Audit = LINE_LIMIT
limit_of Changes = LINE_LIMIT
limit_of Tables = TABLE_LIMIT

-- a read gave no bytes, and no record that was whole is left
abbrev pub is_at_end : Reader → Bool
is_at_end reader = reader.is_ended && length reader.ready == 0

-- what the lines of a source give, record by record, where the first line begins at this offset
abbrev pub Gives : SourceKind → List Category → ℕ → List (List ℕ) → List ReadRecord → Type 0
Gives Audit paths start lines pieces = AuditGives start lines pieces
Gives Changes paths start lines pieces = LinesGive (ChangeGives paths) start lines pieces
Gives Tables paths start lines pieces = LinesGive TableGives start lines pieces

-- these records are all that the lines have, up to the source's end, or all that are known to be whole
abbrev pub HasGathered : Bool → List AuditRecord → ℕ → List (List ℕ) → Gathering → Type 0
HasGathered true records start lines gathering = AreRecordsOf (items_of start lines) records
HasGathered false records start lines gathering = gathered.HasGathered records (items_of start lines) gathering

-- lines of an audit log are held whose records aren't given: some are whole, and the others are gathered
pub record AuditHolds {Thing : Type 0} (IsMade : AuditRecord → Thing → Type 0) (reader : Reader) (given : List Thing) (start : ℕ) (lines held : List (List ℕ)) : Type 0 where
  pub records : List AuditRecord
  pub are : AreRecordsOf (items_of start lines) records
  pub each : AllZip IsMade records given
  pub gathered : HasGathered reader.is_ended (records ++ reader.ready) start (lines ++ held) reader.gathering

abbrev pub AuditWaits : Reader → List ReadRecord → ℕ → List (List ℕ) → List (List ℕ) → Type 0
AuditWaits reader given start lines held = AuditHolds IsPieceOf reader given start lines held

-- of other sources no line is held
abbrev pub NoneWaits : Reader → List (List ℕ) → Type 0
NoneWaits reader held = (held ≡ []) × (reader.ready ≡ [])

abbrev pub Waits : SourceKind → Reader → List ReadRecord → ℕ → List (List ℕ) → List (List ℕ) → Type 0
Waits Audit reader given start lines held = AuditWaits reader given start lines held
Waits Changes reader given start lines held = NoneWaits reader held
Waits Tables reader given start lines held = NoneWaits reader held

abbrev pub Waiting : SourceKind → Reader → List Found → ℕ → List (List ℕ) → List (List ℕ) → Type 0
Waiting Audit reader found start lines held = AuditHolds IsFoundAs reader found start lines held
Waiting Changes reader found start lines held = NoneWaits reader held
Waiting Tables reader found start lines held = NoneWaits reader held

-- Of a source the publisher has read this stream, from an offset on, and given these things: they are what is made of the stream's first
-- lines. It holds some lines of which nothing was given, and its cutter has the rest.
pub record HasMade {Thing : Type 0} (Makes : Reader → ℕ → List (List ℕ) → List Thing → Type 0) (Keeps : Reader → List Thing → ℕ → List (List ℕ) → List (List ℕ) → Type 0) (reader : Reader) (given : List Thing) (start : ℕ) (stream : List ℕ) : Type 0 where
  pub lines : List (List ℕ)
  pub held : List (List ℕ)
  pub rest : List ℕ
  pub cut : stream ≡ ended (lines ++ held) ++ rest
  pub plain : HaveNoFeed (lines ++ held)
  pub taken : reader.taken ≡ start + length (ended lines)
  pub gives : Makes reader start lines given
  pub waits : Keeps reader given start lines held
  pub cutter : cutting.HasCut reader.cutter (start + length (ended (lines ++ held))) rest
  pub limit : reader.cutter.limit ≡ limit_of reader.kind
  pub over : reader.is_ended ≡ true → HasNoFeed rest

abbrev pub GivenBy : Reader → ℕ → List (List ℕ) → List ReadRecord → Type 0
GivenBy reader start lines given = Gives reader.kind reader.paths start lines given

abbrev pub KeptBy : Reader → List ReadRecord → ℕ → List (List ℕ) → List (List ℕ) → Type 0
KeptBy reader given start lines held = Waits reader.kind reader given start lines held

-- the publisher has given what a callback made of the records of the stream's first lines
abbrev pub HasPublished : Reader → List ReadRecord → ℕ → List ℕ → Type 0
HasPublished reader given start stream = HasMade GivenBy KeptBy reader given start stream

abbrev pub FoundBy : Reader → ℕ → List (List ℕ) → List Found → Type 0
FoundBy reader start lines found = Finds reader.kind start lines found

abbrev pub HeldBy : Reader → List Found → ℕ → List (List ℕ) → List (List ℕ) → Type 0
HeldBy reader found start lines held = Waiting reader.kind reader found start lines held

-- the publisher has found the records of the stream's first lines
abbrev pub HasFound : Reader → List Found → ℕ → List ℕ → Type 0
HasFound reader found start stream = HasMade FoundBy HeldBy reader found start stream
