-- What of a source's bytes a step or a session takes.
use Rattle.std.specs.Prelude.{◌≡◌, ◌⊎◌, ℕ, ◌+◌, ◌≤◌, ◌<◌, List, [], ◌∷◌, ◌++◌, length, take, drop}
use Rattle.osq_value.specs.declared.reading.Category.{Category}
use Rattle.record_lines.specs.Lines.{HasNoFeed, lines_of}
use Rattle.audit_records.specs.Groups.{groups_of}
use Rattle.publisher_core.specs.declared.record.Found.{Found}
use Rattle.publisher_core.specs.declared.record.ReadRecord.{ReadRecord}
use Rattle.publisher_core.specs.Found.{Finds}
use Rattle.osq_value.specs.declared.source.SourceKind.{SourceKind}
use Rattle.osq_value.specs.declared.source.SourceKind.TheVariants.{Audit, Changes, Tables}
use Rattle.publisher_core.specs.Audit.{items_of}
use Rattle.publisher_core.specs.AuditParts.{BeginsWithLine, lines_in}
use Rattle.publisher_core.specs.Records.{ended, HaveNoFeed}
use Rattle.publisher_core.specs.Standing.{Gives}
use Rattle.record_lines.specs.Limits.{STEP_BYTES}

-- the lines whose line feed is among the first 16777216 of these bytes
abbrev pub front_lines : List ℕ → List (List ℕ)
front_lines bytes = lines_of (take STEP_BYTES bytes)

-- the lines are these and maybe more
abbrev pub BeginWith : List (List ℕ) → List (List ℕ) → Type 0
BeginWith front lines = (more : List (List ℕ)) × (lines ≡ front ++ more)

-- Of an audit log that has at least 16777216 bytes behind this offset, those from the first line of the last group of these bytes on may be
-- left: `last` is that group, with the skipped lines that stand behind its first line, and what stands before it was taken.
pub record TakesGroups (from : ℕ) (bytes : List ℕ) (lines : List (List ℕ)) : Type 0 where
  pub enough : STEP_BYTES ≤ length bytes
  pub first : List (List ℕ)
  pub last : List (List ℕ)
  pub front : front_lines bytes ≡ first ++ last
  pub begins : BeginsWithLine (items_of (from + length (ended first)) last)
  pub group : groups_of (lines_in (items_of from (first ++ last))) ≡ groups_of (lines_in (items_of from first)) ++ lines_in (items_of (from + length (ended first)) last) ∷ []
  pub taken : BeginWith first lines

-- of the lines of the first 16777216 bytes behind this offset each one was taken, but that of an audit log the last group may be left
abbrev pub TakesFront : SourceKind → ℕ → List ℕ → List (List ℕ) → Type 0
TakesFront Audit from bytes lines = BeginWith (front_lines bytes) lines ⊎ TakesGroups from bytes lines
TakesFront Changes from bytes lines = BeginWith (front_lines bytes) lines
TakesFront Tables from bytes lines = BeginWith (front_lines bytes) lines

-- of a source that has these bytes behind the offset `from` these things are made of the lines between `from` and `to`
pub record LinesTo {Thing : Type 0} (Makes : ℕ → List (List ℕ) → List Thing → Type 0) (from : ℕ) (bytes : List ℕ) (things : List Thing) (to : ℕ) : Type 0 where
  pub lines : List (List ℕ)
  pub rest : List ℕ
  pub cut : bytes ≡ ended lines ++ rest
  pub plain : HaveNoFeed lines
  pub gives : Makes from lines things
  pub place : to ≡ from + length (ended lines)

-- they are what a callback makes of the records of these lines
abbrev pub ReadsTo : SourceKind → List Category → ℕ → List ℕ → List ReadRecord → ℕ → Type 0
ReadsTo kind paths from bytes pieces to = LinesTo (λ start lines given. Gives kind paths start lines given) from bytes pieces to

-- they are what is found in these lines before a callback is asked
abbrev pub FindsTo : SourceKind → ℕ → List ℕ → List Found → ℕ → Type 0
FindsTo kind from bytes found to = LinesTo (λ start lines many. Finds kind start lines many) from bytes found to

-- What a step takes of a source that has these bytes behind the offset `from`, where it may take `most` records: as many records of the
-- first lines, or all lines of the first 16777216 bytes.
pub record Takes (kind : SourceKind) (paths : List Category) (from : ℕ) (bytes : List ℕ) (most : ℕ) (pieces : List ReadRecord) (to : ℕ) : Type 0 where
  pub reads : ReadsTo kind paths from bytes pieces to
  pub few : length pieces ≤ most
  pub all : (length pieces ≡ most) ⊎ TakesFront kind from bytes reads.lines

-- the place is behind the last line feed of the bytes at or after `kept`, or `kept` where there is none
pub record IsBehindLastFeed (kept : ℕ) (bytes : List ℕ) (place : ℕ) : Type 0 where
  pub front : List ℕ
  pub rest : List ℕ
  pub cut : bytes ≡ front ++ rest
  pub size : length front ≡ place
  pub none : HasNoFeed rest
  pub last : (place ≡ kept) ⊎ ((kept < place) × (begun : List ℕ) × (front ≡ begun ++ 10 ∷ []))

-- every line of these bytes behind the offset `kept` was taken: these are the records of all of them
pub record TakesAll (kind : SourceKind) (paths : List Category) (kept : ℕ) (bytes : List ℕ) (pieces : List ReadRecord) (to : ℕ) : Type 0 where
  pub within : kept ≤ length bytes
  pub gives : Gives kind paths kept (lines_of (drop kept bytes)) pieces
  pub size : to ≡ kept + length (ended (lines_of (drop kept bytes)))
  pub place : IsBehindLastFeed kept bytes to
