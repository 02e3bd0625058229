-- One turn of each source, one source after another.
use Rattle.std.specs.Prelude.{◌≡◌, ℕ, List, [], ◌∷◌, ◌++◌, map, flat_map, All, Some, slice_get, bytes_eq}
use Rattle.osq_outside.specs.Causes.{Rose}
use Rattle.source_feeds.specs.Feeding.{Feeding}
use Rattle.entry_model.specs.declared.entry.Entry.{Entry}
use Rattle.entry_model.specs.declared.restored.Taken.{Taken}
use Rattle.entry_model.specs.Fits.{IsDistinct}
use Rattle.session_state.specs.Kept.{Kept}
use Rattle.daemon_rounds.specs.Adding.{AddsEntries}
use Rattle.daemon_rounds.specs.Appending.{Exceeds}
use Rattle.daemon_rounds.specs.Turns.{IsGoing, IsTurn, StillCounts, Turn, turn_entries}
use Rattle.daemon_rounds.specs.declared.turning.Which.{Which}

abbrev pub names_of : List Feeding → List (List ℕ)
names_of feeds = map (λ (feed : Feeding). feed.name) feeds

-- the feeds of a session: each may take a step, and no two are of one source
pub record AreGoing (taken : List Taken) (feeds : List Feeding) : Type 0 where
  pub each : All (IsGoing taken) feeds
  pub distinct : IsDistinct bytes_eq (names_of feeds)

-- The first of these sources had these turns, in order, and are as these turns left them; the others wait.
pub record Front {S : Type 0} (feeds nexts : List Feeding) (sources rests : List S) (turns : List (Turn S)) : Type 0 where
  pub waiting : List Feeding
  pub untouched : List S
  pub feeds_are : feeds ≡ map (λ (turn : Turn S). turn.feed) turns ++ waiting
  pub nexts_are : nexts ≡ map (λ (turn : Turn S). turn.next) turns ++ waiting
  pub sources_are : sources ≡ map (λ (turn : Turn S). turn.source) turns ++ untouched
  pub rests_are : rests ≡ map (λ (turn : Turn S). turn.rest) turns ++ untouched

-- so did all of them
pub record Whole {S : Type 0} (feeds nexts : List Feeding) (sources rests : List S) (turns : List (Turn S)) : Type 0 where
  pub feeds_are : feeds ≡ map (λ (turn : Turn S). turn.feed) turns
  pub nexts_are : nexts ≡ map (λ (turn : Turn S). turn.next) turns
  pub sources_are : sources ≡ map (λ (turn : Turn S). turn.source) turns
  pub rests_are : rests ≡ map (λ (turn : Turn S). turn.rest) turns

-- the entries of what they gave, source by source
abbrev pub round_entries : {S : Type 0} → ℕ → List (Turn S) → List Entry
round_entries moment turns = flat_map (turn_entries moment) turns

-- each source had one turn, and the state gained the entries of what they gave
pub record Rounds {S : Type 0} (tells : Type 0) (left : S → List ℕ) (faults : S → ℕ) (which : Which) (most : ℕ) (feeds nexts : List Feeding) (sources rests : List S) (old new : Kept) : Type 0 where
  pub turns : List (Turn S)
  pub whole : Whole feeds nexts sources rests turns
  pub each : All (IsTurn tells left faults which most) turns
  pub brings : AddsEntries old (round_entries old.counts.moment turns) new

-- each feed goes on counting
abbrev pub AllCount : {S : Type 0} → Type 0 → (S → List ℕ) → List Feeding → List Feeding → List S → Type 0
AllCount tells left [] [] [] = Unit {0}
AllCount tells left (feed ∷ feeds) (next ∷ nexts) (source ∷ sources) = StillCounts tells (left source) feed next × AllCount tells left feeds nexts sources
AllCount tells left _ _ _ = ⊥

-- the source at this place failed
pub record FailsAt {S : Type 0} (faults : S → ℕ) (place : ℕ) (sources rests : List S) : Type 0 where
  pub source : S
  pub rest : S
  pub was : slice_get sources place ≡ Some source
  pub is : slice_get rests place ≡ Some rest
  pub rose : Rose (faults source) (faults rest)

-- A source gave a reading whose events would have numbers beyond 2^62. What the sources before it gave is appended, and so are its own readings
-- before that one.
pub record Overflows {S : Type 0} (tells : Type 0) (left : S → List ℕ) (faults : S → ℕ) (which : Which) (most : ℕ) (feeds nexts : List Feeding) (sources rests : List S) (old new : Kept) : Type 0 where
  pub turns : List (Turn S)
  pub last : Turn S
  pub front : Front feeds nexts sources rests (turns ++ last ∷ [])
  pub each : All (IsTurn tells left faults which most) (turns ++ last ∷ [])
  pub between : Kept
  pub brings : AddsEntries old (round_entries old.counts.moment turns) between
  pub exceeds : Exceeds last.feed.name last.readings between new
