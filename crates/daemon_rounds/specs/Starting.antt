-- The feeds of a session are opened and started.
use Rattle.std.specs.Prelude.{◌≡◌, ℕ, ◌<◌, ◌≤◌, true, List, [], ◌∷◌, map, length, All, Some, slice_get}
use Rattle.osq_value.specs.declared.reading.Category.{Category}
use Rattle.source_feeds.specs.Feeding.{Fed, Feeding, IsOpen}
use Rattle.entry_model.specs.declared.restored.Taken.{Taken}
use Rattle.entry_model.specs.Next.{offset_at}
use Rattle.osq_value.specs.declared.source.SourceName.{SourceName}
use Rattle.daemon_rounds.specs.Turns.{Turn}
use Rattle.daemon_rounds.specs.Rounding.{Whole}

-- a feed of the source, which goes on from the offset up to which earlier sessions took it; nothing is read yet
pub record IsFeedOf (taken : List Taken) (paths : List Category) (source : SourceName) (feed : Feeding) : Type 0 where
  pub name : feed.name ≡ source.name
  pub kind : feed.kind ≡ source.kind
  pub paths_are : feed.reader.paths ≡ paths
  pub place : feed.reader.taken ≡ offset_at taken source.name
  pub fresh : IsOpen feed

abbrev pub source_names : List SourceName → List (List ℕ)
source_names sources = map (λ (source : SourceName). source.name) sources

-- a feed for each source
abbrev pub AreFeedsOf : List Taken → List Category → List SourceName → List Feeding → Type 0
AreFeedsOf taken paths [] [] = Unit {0}
AreFeedsOf taken paths [] (feed ∷ feeds) = ⊥
AreFeedsOf taken paths (source ∷ sources) [] = ⊥
AreFeedsOf taken paths (source ∷ sources) (feed ∷ feeds) = IsFeedOf taken paths source feed × AreFeedsOf taken paths sources feeds

-- the bytes that earlier sessions took of the source were dropped, and nothing else was read
pub record IsStart {S : Type 0} (tells : Type 0) (left : S → List ℕ) (faults : S → ℕ) (turn : Turn S) : Type 0 where
  pub fed : Fed tells (left turn.source) (left turn.rest) turn.next turn.feed.reader.taken []
  pub begun : turn.next ≡ record turn.feed { reader = record turn.feed.reader { is_begun = true } }
  pub none : turn.readings ≡ []
  pub later : faults turn.source ≤ faults turn.rest

-- each source was started, in order
pub record Starts {S : Type 0} (tells : Type 0) (left : S → List ℕ) (faults : S → ℕ) (feeds nexts : List Feeding) (sources rests : List S) : Type 0 where
  pub turns : List (Turn S)
  pub whole : Whole feeds nexts sources rests turns
  pub each : All (IsStart tells left faults) turns

-- the source at this place ended after `found` bytes, before the `kept` bytes that earlier sessions took of it
pub record ShrankAt {S : Type 0} (tells : Type 0) (left : S → List ℕ) (place kept found : ℕ) (feeds : List Feeding) (sources : List S) : Type 0 where
  pub feed : Feeding
  pub source : S
  pub feed_there : slice_get feeds place ≡ Some feed
  pub source_there : slice_get sources place ≡ Some source
  pub kept_is : kept ≡ feed.reader.taken
  pub short : found < kept
  pub ended : tells → length (left source) ≡ found

-- that source, of which earlier sessions took this many bytes
pub record HasShrunk {S : Type 0} (tells : Type 0) (left : S → List ℕ) (taken : List Taken) (names : List SourceName) (place kept found : ℕ) (sources : List S) : Type 0 where
  pub name : SourceName
  pub source : S
  pub named : slice_get names place ≡ Some name
  pub source_there : slice_get sources place ≡ Some source
  pub kept_is : kept ≡ offset_at taken name.name
  pub short : found < kept
  pub ended : tells → length (left source) ≡ found

-- each source has a feed, which was started
pub record IsStarted {S : Type 0} (tells : Type 0) (left : S → List ℕ) (faults : S → ℕ) (taken : List Taken) (paths : List Category) (names : List SourceName) (feeds : List Feeding) (sources rests : List S) : Type 0 where
  pub opened : List Feeding
  pub of_sources : AreFeedsOf taken paths names opened
  pub starts : Starts tells left faults opened feeds sources rests
