-- What a session has taken of a source.
use Rattle.std.specs.Prelude.{◌≡◌, ℕ, ◌-◌, ◌^◌, min, true, false, List, [], ◌++◌, length}
use Rattle.publisher_core.specs.declared.record.ReadRecord.{ReadRecord}
use Rattle.osq_value.specs.declared.source.SourceKind.{SourceKind}
use Rattle.publisher_core.specs.Readings.{skipped_of}
use Rattle.publisher_core.specs.Standing.{Reader, HasPublished}

-- what contracts see of a feed: the source's name, what its lines are, how many were skipped in this session, and what its publisher has read
pub record Feeding : Type 0 where
  pub name : List ℕ
  pub kind : SourceKind
  pub skipped : ℕ
  pub reader : Reader

-- a count of lines, which stops at the last value of its type
abbrev pub counted : ℕ → ℕ
counted lines = min lines (2 ^ 64 - 1)

-- nothing was read of the source in this session: the publisher's offset is the one that earlier sessions kept
pub record IsOpen (feed : Feeding) : Type 0 where
  pub kind : feed.reader.kind ≡ feed.kind
  pub unbegun : feed.reader.is_begun ≡ false
  pub unended : feed.reader.is_ended ≡ false
  pub unspent : feed.reader.is_spent ≡ false
  pub none_skipped : feed.skipped ≡ 0
  pub stands : HasPublished feed.reader [] feed.reader.taken []

-- the publisher has read some stream of a source of this kind, and given the records of its first lines
pub record HasRead (kind : SourceKind) (reader : Reader) : Type 0 where
  pub kind_is : reader.kind ≡ kind
  pub pieces : List ReadRecord
  pub kept : ℕ
  pub stream : List ℕ
  pub stands : HasPublished reader pieces kept stream

-- the source had the bytes `before`, and has `after` behind those that were dropped and those that were read
pub record IsLeft (before after : List ℕ) (kept : ℕ) (stream : List ℕ) : Type 0 where
  pub dropped : List ℕ
  pub size : length dropped ≡ kept
  pub bytes : before ≡ dropped ++ (stream ++ after)

-- Of a source that had the bytes `before` to give when the session began and has `after` now, this session dropped the first `kept`, read a
-- stream behind them, and took exactly these records: they are those of the stream's first lines, up to the feed's offset. Where a read
-- gave nothing, the source has nothing left.
pub record Fed (tells : Type 0) (before after : List ℕ) (feed : Feeding) (kept : ℕ) (pieces : List ReadRecord) : Type 0 where
  pub kind : feed.reader.kind ≡ feed.kind
  pub stream : List ℕ
  pub stands : HasPublished feed.reader pieces kept stream
  pub left : tells → IsLeft before after kept stream
  pub end : tells → feed.reader.is_ended ≡ true → after ≡ []
  pub skipped : feed.skipped ≡ counted (skipped_of pieces)

-- it is a feed of the same source, and no call on it has refused in between
pub record SameFeed (old new : Feeding) : Type 0 where
  pub name : new.name ≡ old.name
  pub kind : new.kind ≡ old.kind
  pub paths : new.reader.paths ≡ old.reader.paths
  pub is_begun : new.reader.is_begun ≡ old.reader.is_begun
  pub is_spent : new.reader.is_spent ≡ old.reader.is_spent
