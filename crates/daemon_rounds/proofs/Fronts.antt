-- Some sources had their turns, and the others wait.
use Rattle.std.proofs.Common.{◌≡◌, ℕ, ◌+◌, ◌<◌, ◌≤◌, List, [], ◌∷◌, ◌++◌, length, get_or, set, map, Some, refl, sym, ap, ◌∙◌, subst, arith, append_assoc, length-append}
use Rattle.std.specs.Prelude.{All, slice_get}
use Rattle.std.proofs.lemmas.List.{append-nil, get_or_at, length-map, map-append, nil_from_length, set_at}
use Rattle.std.proofs.lemmas.List.Elements.{All-head, All-tail}
use Rattle.osq_outside.specs.Causes.{Rose}
use Rattle.source_feeds.specs.Feeding.{Feeding}
use Rattle.daemon_rounds.specs.Turns.{Turn}
use Rattle.daemon_rounds.specs.Rounding.{FailsAt, Front, Whole}

-- what waits behind a front part of a list begins with the item at that part's length
next_waits : {X : Type 0} (front waiting : List X) (at : ℕ) (x : X) → length front ≡ at → at < length (front ++ waiting) → x ≡ get_or (front ++ waiting) at x → (rest : List X) × (waiting ≡ x ∷ rest)
next_waits front [] at x size within is =
    absurd (let whole = length-append front [] in omega (arith, within, size, whole))
next_waits front (y ∷ rest) at x size within is = (rest, ap (λ z. z ∷ rest) (sym (is ∙ get_or_at front y rest x at size)))

get_here : {X : Type 0} (front : List X) (x : X) (rest : List X) → slice_get (front ++ x ∷ rest) (length front) ≡ Some x
get_here [] x rest = refl
get_here (first ∷ front) x rest = get_here front x rest

push_map : {X Y : Type 0} (f : X → Y) (xs : List X) (x : X) (rest : List Y) → map f (xs ++ x ∷ []) ++ rest ≡ map f xs ++ f x ∷ rest
push_map f xs x rest = ap (λ ys. ys ++ rest) (map-append f xs (x ∷ [])) ∙ append_assoc (map f xs) (f x ∷ []) rest

-- what holds of each item holds of the one behind a front part
pub all_here : {X : Type 0} (P : X → Type 0) (front : List X) (x : X) (rest : List X) → All P (front ++ x ∷ rest) → P x
all_here P [] x rest each = All-head P x rest each
all_here P (first ∷ front) x rest each = all_here P front x rest (All-tail P first (front ++ x ∷ rest) each)

pub none_gone : {S : Type 0} (feeds : List Feeding) (sources : List S) → Front feeds feeds sources sources []
none_gone feeds sources =
    record { waiting = feeds; untouched = sources; feeds_are = refl; nexts_are = refl; sources_are = refl; rests_are = refl }

-- all have gone
pub all_gone : {S : Type 0} (feeds nexts : List Feeding) (sources rests : List S) (turns : List (Turn S)) → Front feeds nexts sources rests turns → length nexts ≤ length turns → length sources ≡ length feeds → Whole feeds nexts sources rests turns
all_gone {S} feeds nexts sources rests turns front past paired = record {
  feeds_are = front.feeds_are ∙ whole (map (λ (turn : Turn S). turn.feed) turns) front.waiting none_waits;
  nexts_are = front.nexts_are ∙ whole (map (λ (turn : Turn S). turn.next) turns) front.waiting none_waits;
  sources_are = front.sources_are ∙ whole (map (λ (turn : Turn S). turn.source) turns) front.untouched none_left;
  rests_are = front.rests_are ∙ whole (map (λ (turn : Turn S). turn.rest) turns) front.untouched none_left;
}
  where
    whole : {X : Type 0} (front rest : List X) → rest ≡ [] → front ++ rest ≡ front
    whole front rest none = ap (λ xs. front ++ xs) none ∙ append-nil front

    size : {X : Type 0} (f : Turn S → X) (xs rest : List X) → xs ≡ map f turns ++ rest → length xs ≡ length turns + length rest
    size f xs rest is =
        let e = ap (λ ys. length ys) is ∙ length-append (map f turns) rest in
        let n = length-map turns f in
        omega (arith, e, n)

    none_waits : front.waiting ≡ []
    none_waits =
        let many = size (λ (turn : Turn S). turn.next) nexts front.waiting front.nexts_are in
        nil_from_length front.waiting (omega (arith, many, past))

    none_left : front.untouched ≡ []
    none_left =
        let all = size (λ (turn : Turn S). turn.source) sources front.untouched front.sources_are in
        let many = size (λ (turn : Turn S). turn.feed) feeds front.waiting front.feeds_are in
        let none = ap (λ (xs : List Feeding). length xs) none_waits in
        nil_from_length front.untouched (omega (arith, all, many, none, paired))

-- the source at this place is next
module _ {S : Type 0} (feeds nexts : List Feeding) (sources rests : List S) (turns : List (Turn S)) (front : Front feeds nexts sources rests turns) (at : ℕ) (gone : length turns ≡ at) (feed : Feeding) (feed_in : at < length nexts) (feed_is : feed ≡ get_or nexts at feed) (source : S) (source_in : at < length rests) (source_is : source ≡ get_or rests at source) where
  abbrev pub feed_in_turn : Turn S → Feeding
  feed_in_turn turn = turn.feed

  abbrev pub next_in_turn : Turn S → Feeding
  next_in_turn turn = turn.next

  abbrev pub source_in_turn : Turn S → S
  source_in_turn turn = turn.source

  abbrev pub rest_in_turn : Turn S → S
  rest_in_turn turn = turn.rest

  pub more : (rest : List Feeding) × (front.waiting ≡ feed ∷ rest)
  more =
      next_waits (map next_in_turn turns) front.waiting at feed (length-map turns next_in_turn ∙ gone) (subst (λ (xs : List Feeding). at < length xs) front.nexts_are feed_in) (feed_is ∙ ap (λ (xs : List Feeding). get_or xs at feed) front.nexts_are)

  pub behind : (rest : List S) × (front.untouched ≡ source ∷ rest)
  behind =
      next_waits (map rest_in_turn turns) front.untouched at source (length-map turns rest_in_turn ∙ gone) (subst (λ (xs : List S). at < length xs) front.rests_are source_in) (source_is ∙ ap (λ (xs : List S). get_or xs at source) front.rests_are)

  pub nexts_were : nexts ≡ map next_in_turn turns ++ feed ∷ more.0
  nexts_were = front.nexts_are ∙ ap (λ (xs : List Feeding). map next_in_turn turns ++ xs) more.1

  pub feeds_were : feeds ≡ map feed_in_turn turns ++ feed ∷ more.0
  feeds_were = front.feeds_are ∙ ap (λ (xs : List Feeding). map feed_in_turn turns ++ xs) more.1

  sources_were : sources ≡ map source_in_turn turns ++ source ∷ behind.0
  sources_were = front.sources_are ∙ ap (λ (xs : List S). map source_in_turn turns ++ xs) behind.1

  rests_were : rests ≡ map rest_in_turn turns ++ source ∷ behind.0
  rests_were = front.rests_are ∙ ap (λ (xs : List S). map rest_in_turn turns ++ xs) behind.1

  here : {X : Type 0} (f : Turn S → X) (x : X) (rest xs : List X) → xs ≡ map f turns ++ x ∷ rest → slice_get xs at ≡ Some x
  here f x rest xs is =
      ap (λ ys. slice_get ys at) is ∙ subst (λ (n : ℕ). slice_get (map f turns ++ x ∷ rest) n ≡ Some x) (length-map turns f ∙ gone) (get_here (map f turns) x rest)

  -- the feed and the source stand there from the beginning
  pub feed_here : slice_get feeds at ≡ Some feed
  feed_here = here feed_in_turn feed more.0 feeds feeds_were

  pub source_here : slice_get sources at ≡ Some source
  source_here = here source_in_turn source behind.0 sources sources_were

  module _ (next : Feeding) (rest : S) where
    pub nexts_now : set nexts at next ≡ map next_in_turn turns ++ next ∷ more.0
    nexts_now =
        ap (λ (xs : List Feeding). set xs at next) nexts_were ∙ set_at (map next_in_turn turns) feed more.0 next at (length-map turns next_in_turn ∙ gone)

    rests_now : set rests at rest ≡ map rest_in_turn turns ++ rest ∷ behind.0
    rests_now =
        ap (λ (xs : List S). set xs at rest) rests_were ∙ set_at (map rest_in_turn turns) source behind.0 rest at (length-map turns rest_in_turn ∙ gone)

    -- this source failed in its turn
    pub fails_here : (faults : S → ℕ) → Rose (faults source) (faults rest) → FailsAt faults at sources (set rests at rest)
    fails_here faults rose = record {
      source = source;
      rest = rest;
      was = source_here;
      is = here rest_in_turn rest behind.0 (set rests at rest) rests_now;
      rose = rose;
    }

    -- it had this turn
    pub one_gone : (turn : Turn S) → turn.feed ≡ feed → turn.next ≡ next → turn.source ≡ source → turn.rest ≡ rest → Front feeds (set nexts at next) sources (set rests at rest) (turns ++ turn ∷ [])
    one_gone turn feed_same next_same source_same rest_same = record {
      waiting = more.0;
      untouched = behind.0;
      feeds_are = feeds_were ∙ pushed feed_in_turn feed more.0 feed_same;
      nexts_are = nexts_now ∙ pushed next_in_turn next more.0 next_same;
      sources_are = sources_were ∙ pushed source_in_turn source behind.0 source_same;
      rests_are = rests_now ∙ pushed rest_in_turn rest behind.0 rest_same;
    }
      where
        pushed : {X : Type 0} (f : Turn S → X) (x : X) (rest : List X) → f turn ≡ x → map f turns ++ x ∷ rest ≡ map f (turns ++ turn ∷ []) ++ rest
        pushed f x rest same = ap (λ y. map f turns ++ y ∷ rest) (sym same) ∙ sym (push_map f turns turn rest)
