-- Some sources of a round had their turns, and the feeds go on.
use Rattle.std.proofs.Common.{◌≡◌, ℕ, ◌+◌, ◌<◌, ◌≤◌, Bool, true, false, List, [], ◌∷◌, ◌++◌, length, get_or, set, map, refl, sym, ap, ◌∙◌, subst, arith, length-append}
use Rattle.std.specs.Prelude.{All, flat_map, bytes_eq, ◌||◌}
use Rattle.std.specs.List.{list_any}
use Rattle.std.proofs.lemmas.Bool.{true≢false}
use Rattle.std.proofs.lemmas.List.{append-nil, length-map, set_at}
use Rattle.std.proofs.lemmas.List.Concat.{flat_map-append}
use Rattle.std.proofs.lemmas.List.Elements.{All-cons, All-head, All-nil, All-push, All-tail}
use Rattle.std.proofs.lemmas.Slice.Eq.{bytes_eq-Decides}
use Rattle.osq_outside.specs.Causes.{Rose}
use Rattle.source_feeds.specs.Feeding.{Feeding}
use Rattle.entry_model.specs.declared.entry.Entry.{Entry}
use Rattle.entry_model.specs.declared.restored.Taken.{Taken}
use Rattle.entry_model.specs.Fits.{IsDistinct}
use Rattle.entry_model.specs.Next.{offset_at}
use Rattle.session_state.specs.Kept.{Counts, Kept}
use Rattle.daemon_rounds.specs.Adding.{AddsEntries}
use Rattle.daemon_rounds.specs.Appending.{entries_of}
use Rattle.daemon_rounds.specs.Turns.{HasTooMuch, HasTurn, IsGoing, IsTurn, StillCounts, Turn, turn_entries, turn_of}
use Rattle.daemon_rounds.specs.Rounding.{AllCount, AreGoing, FailsAt, Front, Overflows, Rounds, names_of, round_entries}
use Rattle.daemon_rounds.specs.declared.turning.Which.{Which}
use Rattle.daemon_rounds.proofs.Adding.{brings_same, brings_then}
use Rattle.daemon_rounds.proofs.Counting.{all_count, one_counts}
use Rattle.daemon_rounds.proofs.Fronts as fronts
use Rattle.daemon_rounds.proofs.Turned.{moment_same}

or_false : (a b : Bool) → (a || b) ≡ false → (a ≡ false) × (b ≡ false)
or_false true b h = absurd (true≢false h)
or_false false b h = (refl, h)

differ_back : (a b : List ℕ) → bytes_eq a b ≡ false → bytes_eq b a ≡ false
differ_back a b differs = by_test (bytes_eq b a) refl
  where
    by_test : (test : Bool) → bytes_eq b a ≡ test → test ≡ false
    by_test true e =
        absurd (true≢false (sym ((bytes_eq-Decides a b).1 (sym ((bytes_eq-Decides b a).0 e))) ∙ differs))
    by_test false e = refl

-- One feed has moved, and so has the state's offset of its source; the others go on as they did.
module _ (taken moved : List Taken) (feed next : Feeding) (going : IsGoing moved next) (named : next.name ≡ feed.name) (others : (other : List ℕ) → bytes_eq feed.name other ≡ false → offset_at moved other ≡ offset_at taken other) where
  one_still : (other : Feeding) → IsGoing taken other → bytes_eq feed.name other.name ≡ false → IsGoing moved other
  one_still other is differs =
      record { begun = is.begun; unspent = is.unspent; place = is.place ∙ sym (others other.name differs) }

  rest_still : (rest : List Feeding) → All (IsGoing taken) rest → list_any (λ (name : List ℕ). bytes_eq name feed.name) (names_of rest) ≡ false → All (IsGoing moved) rest
  rest_still [] each none = All-nil (IsGoing moved)
  rest_still (other ∷ rest) each none =
      let two = or_false (bytes_eq other.name feed.name) (list_any (λ (name : List ℕ). bytes_eq name feed.name) (names_of rest)) none in
      All-cons (IsGoing moved) other rest (one_still other (All-head (IsGoing taken) other rest each) (differ_back other.name feed.name two.0)) (rest_still rest (All-tail (IsGoing taken) other rest each) two.1)

  differs_in : (other : List ℕ) (front rest : List Feeding) → list_any (λ (name : List ℕ). bytes_eq name other) (names_of (front ++ feed ∷ rest)) ≡ false → bytes_eq feed.name other ≡ false
  differs_in other [] rest none =
      (or_false (bytes_eq feed.name other) (list_any (λ (name : List ℕ). bytes_eq name other) (names_of rest)) none).0
  differs_in other (first ∷ front) rest none =
      differs_in other front rest (or_false (bytes_eq first.name other) (list_any (λ (name : List ℕ). bytes_eq name other) (names_of (front ++ feed ∷ rest))) none).1

  each_still : (front rest : List Feeding) → All (IsGoing taken) (front ++ feed ∷ rest) → IsDistinct bytes_eq (names_of (front ++ feed ∷ rest)) → All (IsGoing moved) (front ++ next ∷ rest)
  each_still [] rest each distinct =
      All-cons (IsGoing moved) next rest going (rest_still rest (All-tail (IsGoing taken) feed rest each) distinct.0)
  each_still (first ∷ front) rest each distinct =
      All-cons (IsGoing moved) first (front ++ next ∷ rest) (one_still first (All-head (IsGoing taken) first (front ++ feed ∷ rest) each) (differs_in first.name front rest distinct.0)) (each_still front rest (All-tail (IsGoing taken) first (front ++ feed ∷ rest) each) distinct.1)

  names_still : (front rest : List Feeding) → names_of (front ++ next ∷ rest) ≡ names_of (front ++ feed ∷ rest)
  names_still [] rest = ap (λ (name : List ℕ). name ∷ names_of rest) named
  names_still (first ∷ front) rest = ap (λ (names : List (List ℕ)). first.name ∷ names) (names_still front rest)

  pub all_still : (front rest : List Feeding) → AreGoing taken (front ++ feed ∷ rest) → AreGoing moved (front ++ next ∷ rest)
  all_still front rest are = record {
    each = each_still front rest are.each are.distinct;
    distinct = subst (λ (names : List (List ℕ)). IsDistinct bytes_eq names) (sym (names_still front rest)) are.distinct;
  }

-- some had their turns, and the others wait
pub record AreUnderWay {S : Type 0} (tells : Type 0) (left : S → List ℕ) (faults : S → ℕ) (which : Which) (most : ℕ) (feeds nexts : List Feeding) (sources rests : List S) (at : ℕ) (s t : Kept) : Type 0 where
  pub turns : List (Turn S)
  pub gone : length turns ≡ at
  pub front : Front feeds nexts sources rests turns
  pub each : All (IsTurn tells left faults which most) turns
  pub brings : AddsEntries s (round_entries s.counts.moment turns) t
  pub moment : t.counts.moment ≡ s.counts.moment
  pub going : AreGoing t.counts.taken nexts
  pub counts : AllCount tells left feeds nexts sources

pub none_yet : {S : Type 0} (tells : Type 0) (left : S → List ℕ) (faults : S → ℕ) (which : Which) (most : ℕ) (feeds : List Feeding) (sources : List S) (s : Kept) → AreGoing s.counts.taken feeds → length sources ≡ length feeds → AreUnderWay tells left faults which most feeds feeds sources sources 0 s s
none_yet tells left faults which most feeds sources s going paired = record {
  turns = [];
  gone = refl;
  front = fronts.none_gone feeds sources;
  each = All-nil (IsTurn tells left faults which most);
  brings = brings_same s;
  moment = refl;
  going = going;
  counts = all_count tells left feeds sources paired;
}

-- each had its turn
pub all_had : {S : Type 0} (tells : Type 0) (left : S → List ℕ) (faults : S → ℕ) (which : Which) (most : ℕ) (feeds nexts : List Feeding) (sources rests : List S) (at : ℕ) (s t : Kept) → AreUnderWay tells left faults which most feeds nexts sources rests at s t → length nexts ≤ at → length sources ≡ length feeds → Rounds tells left faults which most feeds nexts sources rests s t
all_had tells left faults which most feeds nexts sources rests at s t u past paired = record {
  turns = u.turns;
  whole = fronts.all_gone feeds nexts sources rests u.turns u.front (let n = u.gone in omega (arith, n, past)) paired;
  each = u.each;
  brings = u.brings;
}

module _ {S : Type 0} (tells : Type 0) (left : S → List ℕ) (faults : S → ℕ) (which : Which) (most : ℕ) (feeds nexts : List Feeding) (sources rests : List S) (at : ℕ) (s t : Kept) (u : AreUnderWay tells left faults which most feeds nexts sources rests at s t) (feed : Feeding) (feed_in : at < length nexts) (feed_is : feed ≡ get_or nexts at feed) (source : S) (source_in : at < length rests) (source_is : source ≡ get_or rests at source) where
  abbrev before : List Feeding
  before = map (λ (turn : Turn S). turn.next) u.turns

  waiting : (rest : List Feeding) × (u.front.waiting ≡ feed ∷ rest)
  waiting = fronts.more feeds nexts sources rests u.turns u.front at u.gone feed feed_in feed_is source source_in source_is

  nexts_were : nexts ≡ before ++ feed ∷ waiting.0
  nexts_were =
      u.front.nexts_are ∙ ap (λ (xs : List Feeding). before ++ xs) waiting.1

  pub this_going : IsGoing t.counts.taken feed
  this_going =
      fronts.all_here (IsGoing t.counts.taken) before feed waiting.0 (subst (λ (xs : List Feeding). All (IsGoing t.counts.taken) xs) nexts_were u.going.each)

  module _ (next : Feeding) (rest : S) where
    nexts_now : set nexts at next ≡ before ++ next ∷ waiting.0
    nexts_now = ap (λ (xs : List Feeding). set xs at next) nexts_were ∙ set_at before feed waiting.0 next at (length-map u.turns (λ (turn : Turn S). turn.next) ∙ u.gone)

    gone_by : (turn : Turn S) → turn.feed ≡ feed → turn.next ≡ next → turn.source ≡ source → turn.rest ≡ rest → Front feeds (set nexts at next) sources (set rests at rest) (u.turns ++ turn ∷ [])
    gone_by = fronts.one_gone feeds nexts sources rests u.turns u.front at u.gone feed feed_in feed_is source source_in source_is next rest

    -- this source failed in its turn
    pub fails_here : Rose (faults source) (faults rest) → FailsAt faults at sources (set rests at rest)
    fails_here rose = fronts.fails_here feeds nexts sources rests u.turns u.front at u.gone feed feed_in feed_is source source_in source_is next rest faults rose

    -- its feed goes on counting, as all do
    pub counts_here : StillCounts tells (left source) feed next → AllCount tells left feeds (set nexts at next) sources
    counts_here counts =
        one_counts tells left feeds nexts sources at feed next source u.counts (fronts.feed_here feeds nexts sources rests u.turns u.front at u.gone feed feed_in feed_is source source_in source_is) (fronts.source_here feeds nexts sources rests u.turns u.front at u.gone feed feed_in feed_is source source_in source_is) counts

    -- it gave too much
    pub overflows_here : (v : Kept) → HasTooMuch tells left faults which most feed next source rest t v → Overflows tells left faults which most feeds (set nexts at next) sources (set rests at rest) s v
    overflows_here v much = record {
      turns = u.turns;
      last = turn_of feed next source rest much.readings;
      front = gone_by (turn_of feed next source rest much.readings) refl refl refl refl;
      each = All-push (IsTurn tells left faults which most) u.turns (turn_of feed next source rest much.readings) u.each much.is;
      between = t;
      brings = u.brings;
      exceeds = much.exceeds;
    }

    module _ (v : Kept) (had : HasTurn tells left faults which most feed next source rest t v) where
      abbrev turn : Turn S
      turn = turn_of feed next source rest had.readings

      entries_are : round_entries s.counts.moment u.turns ++ entries_of feed.name t.counts.moment had.readings ≡ round_entries s.counts.moment (u.turns ++ turn ∷ [])
      entries_are =
          ap (λ (moment : ℕ). round_entries s.counts.moment u.turns ++ entries_of feed.name moment had.readings) u.moment ∙ ap (λ (entries : List Entry). round_entries s.counts.moment u.turns ++ entries) (sym (append-nil (entries_of feed.name s.counts.moment had.readings))) ∙ sym (flat_map-append (turn_entries s.counts.moment) u.turns (turn ∷ []))

      gone_now : length (u.turns ++ turn ∷ []) ≡ at + 1
      gone_now = let e = length-append u.turns (turn ∷ []) in let n = u.gone in omega (arith, e, n)

      -- it had its turn
      pub one_had : IsGoing v.counts.taken next → next.name ≡ feed.name → ((other : List ℕ) → bytes_eq feed.name other ≡ false → offset_at v.counts.taken other ≡ offset_at t.counts.taken other) → StillCounts tells (left source) feed next → AreUnderWay tells left faults which most feeds (set nexts at next) sources (set rests at rest) (at + 1) s v
      one_had going named others counting = record {
        turns = u.turns ++ turn ∷ [];
        gone = gone_now;
        front = gone_by turn refl refl refl refl;
        each = All-push (IsTurn tells left faults which most) u.turns turn u.each had.is;
        brings = subst (λ (entries : List Entry). AddsEntries s entries v) entries_are (brings_then s t v (round_entries s.counts.moment u.turns) (entries_of feed.name t.counts.moment had.readings) u.brings had.brings);
        moment = ap (λ (counts : Counts). counts.moment) had.brings.counts ∙ moment_same t.counts feed.name t.counts.moment had.readings ∙ u.moment;
        going = subst (AreGoing v.counts.taken) (sym nexts_now) (all_still t.counts.taken v.counts.taken feed next going named others before waiting.0 (subst (AreGoing t.counts.taken) nexts_were u.going));
        counts = counts_here counting;
      }
