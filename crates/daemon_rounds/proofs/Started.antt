-- The sources of a session are started.
use Rattle.std.proofs.Common.{◌≡◌, ℕ, zero, suc, ◌+◌, ◌<◌, ◌≤◌, true, List, [], ◌∷◌, ◌++◌, length, get_or, set, map, take, drop, Result, Err, refl, sym, ap, ◌∙◌, subst, arith, length-append}
use Rattle.std.specs.Prelude.{All, Option, Some, None, bytes_eq, slice_get}
use Rattle.std.proofs.lemmas.List.{take_at}
use Rattle.std.proofs.lemmas.List.Elements.{All-cons, All-head, All-nil, All-push, All-tail}
use Rattle.osq_outside.specs.Causes.{Rose}
use Rattle.osq_value.specs.declared.reading.Category.{Category}
use Rattle.publisher_core.specs.Standing.{Reader}
use Rattle.source_feeds.specs.Feeding.{Fed, Feeding, IsOpen}
use Rattle.entry_model.specs.declared.restored.Taken.{Taken}
use Rattle.entry_model.specs.Fits.{IsDistinct}
use Rattle.entry_model.specs.Next.{offset_at}
use Rattle.daemon_rounds.specs.declared.error.StartError.TheVariants as start
use Rattle.osq_value.specs.declared.source.SourceName.{SourceName}
use Rattle.daemon_rounds.specs.Turns.{IsGoing, Turn, turn_of}
use Rattle.daemon_rounds.specs.Rounding.{AreGoing, FailsAt, Front, names_of}
use Rattle.daemon_rounds.specs.Starting.{AreFeedsOf, HasShrunk, IsFeedOf, IsStart, ShrankAt, Starts, source_names}
use Rattle.daemon_rounds.proofs.Fronts as fronts

pub feeds_push : (taken : List Taken) (paths : List Category) (sources : List SourceName) (feeds : List Feeding) (source : SourceName) (feed : Feeding) → AreFeedsOf taken paths sources feeds → IsFeedOf taken paths source feed → AreFeedsOf taken paths (sources ++ source ∷ []) (feeds ++ feed ∷ [])
feeds_push taken paths [] [] source feed are is = (is, tt)
feeds_push taken paths [] (other ∷ feeds) source feed are is = absurd are
feeds_push taken paths (first ∷ sources) [] source feed are is = absurd are
feeds_push taken paths (first ∷ sources) (other ∷ feeds) source feed are is =
    (are.0, feeds_push taken paths sources feeds source feed are.1 is)

pub all_open : (taken : List Taken) (paths : List Category) (sources : List SourceName) (feeds : List Feeding) → AreFeedsOf taken paths sources feeds → All IsOpen feeds
all_open taken paths [] [] are = All-nil IsOpen
all_open taken paths [] (feed ∷ feeds) are = absurd are
all_open taken paths (source ∷ sources) [] are = absurd are
all_open taken paths (source ∷ sources) (feed ∷ feeds) are =
    All-cons IsOpen feed feeds are.0.fresh (all_open taken paths sources feeds are.1)

pub as_many : (taken : List Taken) (paths : List Category) (sources : List SourceName) (feeds : List Feeding) → AreFeedsOf taken paths sources feeds → length feeds ≡ length sources
as_many taken paths [] [] are = refl
as_many taken paths [] (feed ∷ feeds) are = absurd are
as_many taken paths (source ∷ sources) [] are = absurd are
as_many taken paths (source ∷ sources) (feed ∷ feeds) are =
    let rest = as_many taken paths sources feeds are.1 in omega (arith, rest)

-- some are started, and the others wait
pub record AreStarted {S : Type 0} (tells : Type 0) (left : S → List ℕ) (faults : S → ℕ) (feeds nexts : List Feeding) (sources rests : List S) (at : ℕ) : Type 0 where
  pub turns : List (Turn S)
  pub gone : length turns ≡ at
  pub front : Front feeds nexts sources rests turns
  pub each : All (IsStart tells left faults) turns

pub none_started : {S : Type 0} (tells : Type 0) (left : S → List ℕ) (faults : S → ℕ) (feeds : List Feeding) (sources : List S) → AreStarted tells left faults feeds feeds sources sources 0
none_started tells left faults feeds sources =
    record { turns = []; gone = refl; front = fronts.none_gone feeds sources; each = All-nil (IsStart tells left faults) }

pub all_started : {S : Type 0} (tells : Type 0) (left : S → List ℕ) (faults : S → ℕ) (feeds nexts : List Feeding) (sources rests : List S) (at : ℕ) → AreStarted tells left faults feeds nexts sources rests at → length nexts ≤ at → length sources ≡ length feeds → Starts tells left faults feeds nexts sources rests
all_started tells left faults feeds nexts sources rests at u past paired = record {
  turns = u.turns;
  whole = fronts.all_gone feeds nexts sources rests u.turns u.front (let n = u.gone in omega (arith, n, past)) paired;
  each = u.each;
}

module _ {S : Type 0} (tells : Type 0) (left : S → List ℕ) (faults : S → ℕ) (feeds nexts : List Feeding) (sources rests : List S) (at : ℕ) (u : AreStarted tells left faults feeds nexts sources rests at) (feed : Feeding) (feed_in : at < length nexts) (feed_is : feed ≡ get_or nexts at feed) (source : S) (source_in : at < length rests) (source_is : source ≡ get_or rests at source) where
  pub open_here : All IsOpen feeds → IsOpen feed
  open_here fresh =
      fronts.all_here IsOpen (map (λ (turn : Turn S). turn.feed) u.turns) feed (fronts.more feeds nexts sources rests u.turns u.front at u.gone feed feed_in feed_is source source_in source_is).0 (subst (All IsOpen) (fronts.feeds_were feeds nexts sources rests u.turns u.front at u.gone feed feed_in feed_is source source_in source_is) fresh)

  pub shrank_here : (kept found : ℕ) → (kept ≡ feed.reader.taken) × (found < kept) × (tells → length (left source) ≡ found) → ShrankAt tells left at kept found feeds sources
  shrank_here kept found (is, short, ended) = record {
    feed = feed;
    source = source;
    feed_there = fronts.feed_here feeds nexts sources rests u.turns u.front at u.gone feed feed_in feed_is source source_in source_is;
    source_there = fronts.source_here feeds nexts sources rests u.turns u.front at u.gone feed feed_in feed_is source source_in source_is;
    kept_is = is;
    short = short;
    ended = ended;
  }

  module _ (next : Feeding) (rest : S) where
    pub fails_here : Rose (faults source) (faults rest) → FailsAt faults at sources (set rests at rest)
    fails_here rose =
        fronts.fails_here feeds nexts sources rests u.turns u.front at u.gone feed feed_in feed_is source source_in source_is next rest faults rose

    pub one_started : Fed tells (left source) (left rest) next feed.reader.taken [] → next ≡ record feed { reader = record feed.reader { is_begun = true } } → faults source ≤ faults rest → AreStarted tells left faults feeds (set nexts at next) sources (set rests at rest) (at + 1)
    one_started fed begun later = record {
      turns = u.turns ++ turn_of feed next source rest [] ∷ [];
      gone = (let e = length-append u.turns (turn_of feed next source rest [] ∷ []) in let n = u.gone in omega (arith, e, n));
      front = fronts.one_gone feeds nexts sources rests u.turns u.front at u.gone feed feed_in feed_is source source_in source_is next rest (turn_of feed next source rest []) refl refl refl refl;
      each = All-push (IsStart tells left faults) u.turns (turn_of feed next source rest []) u.each (record { fed = fed; begun = begun; none = refl; later = later });
    }

-- a started feed goes on from the offset up to which earlier sessions took its source
start_going : {S : Type 0} (tells : Type 0) (left : S → List ℕ) (faults : S → ℕ) (taken : List Taken) (paths : List Category) (source : SourceName) (turn : Turn S) → IsFeedOf taken paths source turn.feed → IsStart tells left faults turn → IsGoing taken turn.next
start_going tells left faults taken paths source turn of_source start = record {
  begun = ap (λ (feed : Feeding). feed.reader.is_begun) start.begun;
  unspent = ap (λ (feed : Feeding). feed.reader.is_spent) start.begun ∙ of_source.fresh.unspent;
  place = ap (λ (feed : Feeding). feed.reader.taken) start.begun ∙ of_source.place ∙ ap (offset_at taken) (sym of_source.name ∙ sym (ap (λ (feed : Feeding). feed.name) start.begun));
}

starts_going : {S : Type 0} (tells : Type 0) (left : S → List ℕ) (faults : S → ℕ) (taken : List Taken) (paths : List Category) (names : List SourceName) (turns : List (Turn S)) → AreFeedsOf taken paths names (map (λ (turn : Turn S). turn.feed) turns) → All (IsStart tells left faults) turns → All (IsGoing taken) (map (λ (turn : Turn S). turn.next) turns)
starts_going tells left faults taken paths [] [] are each = All-nil (IsGoing taken)
starts_going tells left faults taken paths [] (turn ∷ turns) are each = absurd are
starts_going tells left faults taken paths (name ∷ names) [] are each = absurd are
starts_going {S} tells left faults taken paths (name ∷ names) (turn ∷ turns) are each =
    All-cons (IsGoing taken) turn.next (map (λ (turn : Turn S). turn.next) turns) (start_going tells left faults taken paths name turn are.0 (All-head (IsStart tells left faults) turn turns each)) (starts_going tells left faults taken paths names turns are.1 (All-tail (IsStart tells left faults) turn turns each))

starts_named : {S : Type 0} (tells : Type 0) (left : S → List ℕ) (faults : S → ℕ) (taken : List Taken) (paths : List Category) (names : List SourceName) (turns : List (Turn S)) → AreFeedsOf taken paths names (map (λ (turn : Turn S). turn.feed) turns) → All (IsStart tells left faults) turns → names_of (map (λ (turn : Turn S). turn.next) turns) ≡ source_names names
starts_named tells left faults taken paths [] [] are each = refl
starts_named tells left faults taken paths [] (turn ∷ turns) are each = absurd are
starts_named tells left faults taken paths (name ∷ names) [] are each = absurd are
starts_named {S} tells left faults taken paths (name ∷ names) (turn ∷ turns) are each =
    let first = ap (λ (feed : Feeding). feed.name) (All-head (IsStart tells left faults) turn turns each).begun ∙ are.0.name in
    let others = starts_named tells left faults taken paths names turns are.1 (All-tail (IsStart tells left faults) turn turns each) in
    ap (λ (name : List ℕ). name ∷ names_of (map (λ (turn : Turn S). turn.next) turns)) first ∙ ap (λ (rest : List (List ℕ)). name.name ∷ rest) others

-- so do all of them, where no two sources have one name
pub all_going : {S : Type 0} (tells : Type 0) (left : S → List ℕ) (faults : S → ℕ) (taken : List Taken) (paths : List Category) (names : List SourceName) (feeds nexts : List Feeding) (sources rests : List S) → AreFeedsOf taken paths names feeds → Starts tells left faults feeds nexts sources rests → IsDistinct bytes_eq (source_names names) → AreGoing taken nexts
all_going {S} tells left faults taken paths names feeds nexts sources rests are starts distinct = record {
  each = subst (All (IsGoing taken)) (sym starts.whole.nexts_are) (starts_going tells left faults taken paths names starts.turns of_turns starts.each);
  distinct = subst (λ (xs : List (List ℕ)). IsDistinct bytes_eq xs) (sym named) distinct;
}
  where
    of_turns : AreFeedsOf taken paths names (map (λ (turn : Turn S). turn.feed) starts.turns)
    of_turns = subst (AreFeedsOf taken paths names) starts.whole.feeds_are are

    named : names_of nexts ≡ source_names names
    named = ap names_of starts.whole.nexts_are ∙ starts_named tells left faults taken paths names starts.turns of_turns starts.each

-- the source whose feed stands at this place
source_at : (taken : List Taken) (paths : List Category) (names : List SourceName) (feeds : List Feeding) (place : ℕ) (feed : Feeding) → AreFeedsOf taken paths names feeds → slice_get feeds place ≡ Some feed → (name : SourceName) × (slice_get names place ≡ Some name) × (feed.reader.taken ≡ offset_at taken name.name)
source_at taken paths [] [] place feed are there = absurd (cc)
source_at taken paths [] (first ∷ feeds) place feed are there = absurd are
source_at taken paths (name ∷ names) [] place feed are there = absurd are
source_at taken paths (name ∷ names) (first ∷ feeds) zero feed are there =
    let same : first ≡ feed = (cc) in
    (name, refl, ap (λ (f : Feeding). f.reader.taken) (sym same) ∙ are.0.place)
source_at taken paths (name ∷ names) (first ∷ feeds) (suc place) feed are there =
    source_at taken paths names feeds place feed are.1 there

pub shrunk : {S : Type 0} (tells : Type 0) (left : S → List ℕ) (taken : List Taken) (paths : List Category) (names : List SourceName) (feeds : List Feeding) (place kept found : ℕ) (sources : List S) → AreFeedsOf taken paths names feeds → ShrankAt tells left place kept found feeds sources → HasShrunk tells left taken names place kept found sources
shrunk tells left taken paths names feeds place kept found sources are shrank =
    let at = source_at taken paths names feeds place shrank.feed are shrank.feed_there in
    record {
      name = at.0;
      source = shrank.source;
      named = at.1;
      source_there = shrank.source_there;
      kept_is = shrank.kept_is ∙ at.2;
      short = shrank.short;
      ended = shrank.ended;
    }

pub same_error : {T E : Type 0} (x y : Result T E) (a b : E) → x ≡ Err a → y ≡ Err b → x ≡ y → a ≡ b
same_error x y a b first second same = cc

-- the same, whichever names its numbers have
pub shrank_as : {S : Type 0} (tells : Type 0) (left : S → List ℕ) (feeds : List Feeding) (sources : List S) (at place was kept seen found : ℕ) → start.SourceShrank at was seen ≡ start.SourceShrank place kept found → ShrankAt tells left at was seen feeds sources → ShrankAt tells left place kept found feeds sources
shrank_as tells left feeds sources at place was kept seen found is shrank =
    let places : at ≡ place = (cc) in
    let kepts : was ≡ kept = (cc) in
    let founds : seen ≡ found = (cc) in
    subst (λ (n : ℕ). ShrankAt tells left place kept n feeds sources) founds (subst (λ (n : ℕ). ShrankAt tells left place n seen feeds sources) kepts (subst (λ (n : ℕ). ShrankAt tells left n was seen feeds sources) places shrank))

-- a list that was written back whole
pub written_back : (count : ℕ) (nexts feeds : List Feeding) → length nexts ≡ length feeds → length feeds ≡ count → take count (nexts ++ drop (length nexts) feeds) ≡ nexts
written_back count nexts feeds same size = take_at nexts (drop (length nexts) feeds) count (same ∙ size)
