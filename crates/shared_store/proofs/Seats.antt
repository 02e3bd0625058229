-- Seats that are split off and joined one after another.
use Rattle.std.proofs.Common.{◌≡◌, ◌≢◌, ◌⊎◌, inl, inr, ℕ, zero, suc, ◌+◌, ◌<◌, ◌≤◌, List, [], ◌∷◌, ◌++◌, map, length, reverse, get_or, All, Contains, refl, sym, ap, ap₂, ◌∙◌, subst, arith, length-append}
use Rattle.std.specs.List.{range_with_len}
use Rattle.std.proofs.lemmas.List.{reverse-append}
use Rattle.std.proofs.lemmas.List.Elements.{All-push, All-nil, All-cons, Contains-append_left, Contains-push}
use mathlib.Core.List.{map-append}
use Rattle.turn_lock.specs.declared.board.Stands.{Ghosts}
use Rattle.turn_lock.specs.declared.lock.TurnSeat.{TurnSeat}
use Rattle.turn_lock.specs.Turns.{Grows, IsAbsent}
use Rattle.turn_lock.specs.Words.{number, seen, split_off, joined, seats_out, IsAtRest, IsFirst, IsOther, Overhears}
use Rattle.turn_lock.proofs.Lists.{all_head, all_tail, all_right, all_more, grows_none, grows_more}
use Rattle.session_state.specs.Kept.{Kept}
use Rattle.shared_store.specs.declared.noted.Noted.{Noted}
use Rattle.shared_store.specs.declared.shared.Shared.{Shared}
use Rattle.shared_store.specs.declared.store.Store.{Store}
use Rattle.shared_store.specs.Words.{IsSeatOf}
use Rattle.shared_store.specs.Seats.{IsSplitFrom}

range-push : (a n : ℕ) → range_with_len a (suc n) ≡ range_with_len a n ++ (a + n) ∷ []
range-push a zero = let same : a + 0 ≡ a = omega arith in ap (λ (k : ℕ). k ∷ []) (sym same)
range-push a (suc n) = let same : (a + 1) + n ≡ a + suc n = omega arith in ap (λ (l : List ℕ). a ∷ l) (range-push (a + 1) n ∙ ap (λ (k : ℕ). range_with_len (a + 1) n ++ k ∷ []) same)

-- a list that grows twice
grows_on : {E : Type 0} (P Q : ℕ → Type 0) → ((n : ℕ) → Q n → P n) → (xs ys zs : List (ℕ × E)) → Grows P xs ys → Grows Q ys zs → Grows P xs zs
grows_on P Q weaker xs ys zs g h =
    let more = grows_more P xs ys h.0 g (all_more (λ x. Q x.0) (λ x. P x.0) h.0 (λ x. weaker x.0) h.2) in
    subst (λ l. Grows P xs l) (sym h.1) more

pub none_of : {X : Type 0} (xs : List X) → length xs ≡ 0 → xs ≡ []
none_of [] none = refl
none_of (x ∷ xs) none = absurd (omega (arith, none))

all_mapped : {X Y : Type 0} (P : Y → Type 0) (f : X → Y) (xs : List X) → All (λ x. P (f x)) xs → All P (map f xs)
all_mapped P f [] a = All-nil P
all_mapped P f (x ∷ xs) a = All-cons P (f x) (map f xs) (all_head (λ y. P (f y)) x xs a) (all_mapped P f xs (all_tail (λ y. P (f y)) x xs a))

-- one of some lists that are the same is that list
pub the_same : {X Y : Type 0} (f : X → Y) (y z : Y) (xs : List X) → All (λ x. f x ≡ y) xs → Contains (y ∷ map f xs) z → z ≡ y
the_same {X} {Y} f y z xs a has =
    sym has.2 ∙ All-cons (λ (w : Y). w ≡ y) y (map f xs) refl (all_mapped (λ (w : Y). w ≡ y) f xs a) has.0 z has.1

module _ {g : Ghosts Shared Kept Noted} where
  -- the first seat has split these off
  pub record Splits (store : Store) (old new : TurnSeat Shared Kept Noted g) (seats : List (TurnSeat Shared Kept Noted g)) : Type 0 where
    pub seat : IsSeatOf store new × IsAtRest new × IsFirst new
    pub sees : seen new ≡ seen old
    pub splits : split_off new ≡ split_off old + length seats
    pub joins : joined new ≡ joined old
    pub out : seats_out new ≡ seats_out old + length seats
    pub numbers : map number seats ≡ range_with_len (split_off old + 1) (length seats)
    pub all : All (IsSplitFrom store old) seats

  pub splits_none : (store : Store) (old : TurnSeat Shared Kept Noted g) → IsSeatOf store old × IsAtRest old × IsFirst old → Splits store old old []
  splits_none store old is = record { seat = is; sees = refl; splits = omega arith; joins = refl; out = omega arith; numbers = refl; all = All-nil (IsSplitFrom store old) }

  pub splits_one : (store : Store) (old mid new split : TurnSeat Shared Kept Noted g) (seats : List (TurnSeat Shared Kept Noted g)) → Splits store old mid seats
      → IsSeatOf store new × IsAtRest new × IsFirst new → (split_off new ≡ split_off mid + 1) × (joined new ≡ joined mid) × (seen new ≡ seen mid) → seats_out new ≡ seats_out mid + 1
      → IsSeatOf store split × IsAtRest split → (number split ≡ split_off new) × (seen split ≡ seen mid) → All (λ x. x.0 ≢ number split) (seen split) → Splits store old new (seats ++ split ∷ [])
  splits_one store old mid new split seats s is counts out of same fresh =
      let before = s.splits in
      let now = counts.0 in
      let outs = s.out in
      let named = same.0 in
      let long : length (seats ++ split ∷ []) ≡ suc (length seats) = omega (arith, length-append seats (split ∷ [])) in
      let next : number split ≡ (split_off old + 1) + length seats = omega arith in
      let later : number split ≢ 0 = λ e. absurd (omega (arith, e, next)) in
      record {
        seat = is;
        sees = counts.2 ∙ s.sees;
        splits = omega arith;
        joins = counts.1 ∙ s.joins;
        out = omega arith;
        numbers = map-append number seats (split ∷ []) ∙ ap₂ (λ (l : List ℕ) (k : ℕ). l ++ k ∷ []) s.numbers next
            ∙ sym (ap (λ (n : ℕ). range_with_len (split_off old + 1) n) long ∙ range-push (split_off old + 1) (length seats));
        all = All-push (IsSplitFrom store old) seats split s.all (record { of = of.0; rest = of.1; later = later; sees = same.1 ∙ s.sees; fresh = fresh });
      }

  -- the first seat has joined these
  pub record Joins (store : Store) (old new : TurnSeat Shared Kept Noted g) (seats : List (TurnSeat Shared Kept Noted g)) : Type 0 where
    pub seat : IsSeatOf store new × IsAtRest new × IsFirst new
    pub splits : split_off new ≡ split_off old
    pub joins : joined new ≡ reverse (map number seats) ++ joined old
    pub out : seats_out old ≡ seats_out new + length seats
    pub one : Contains (seen old ∷ map seen seats) (seen new)
    pub own : Overhears old new
    pub theirs : All (λ s. Grows (λ n. n ≢ number s) (seen s) (seen new)) seats
    pub gone : All (λ s. (n : ℕ) → IsAbsent (joined new) n → n ≢ number s) seats
    pub numbered : 0 < length seats → All (λ x. x.0 ≤ split_off new) (seen new)

  pub joins_none : (store : Store) (old : TurnSeat Shared Kept Noted g) → IsSeatOf store old × IsAtRest old × IsFirst old → Joins store old old []
  joins_none store old is = record {
    seat = is;
    splits = refl;
    joins = refl;
    out = omega arith;
    one = (zero, omega arith, refl);
    own = grows_none (IsOther old) (seen old);
    theirs = λ k d h. absurd (omega (arith, h));
    gone = λ k d h. absurd (omega (arith, h));
    numbered = λ h. absurd (omega (arith, h));
  }

  pub joins_one : (store : Store) (old mid new other : TurnSeat Shared Kept Noted g) (seats : List (TurnSeat Shared Kept Noted g)) → IsFirst old → Joins store old mid seats
      → IsSeatOf store new × IsAtRest new × IsFirst new → (split_off new ≡ split_off mid) × (joined new ≡ number other ∷ joined mid) → seats_out mid ≡ seats_out new + 1
      → (seen new ≡ seen mid) ⊎ (seen new ≡ seen other) → Overhears mid new → Grows (λ n. n ≢ number other) (seen other) (seen new) → All (λ x. x.0 ≤ split_off new) (seen new) → Joins store old new (seats ++ other ∷ [])
  joins_one store old mid new other seats first j is counts out one own theirs numbered =
      let before = j.out in
      let long : length (seats ++ other ∷ []) ≡ suc (length seats) = omega (arith, length-append seats (other ∷ [])) in
      let named : map number (seats ++ other ∷ []) ≡ map number seats ++ number other ∷ [] = map-append number seats (other ∷ []) in
      let lists : map seen (seats ++ other ∷ []) ≡ map seen seats ++ seen other ∷ [] = map-append seen seats (other ∷ []) in
      let other_mid : (n : ℕ) → IsOther mid n → IsOther old n = λ n h. (
        (λ e. h.0 (e ∙ first ∙ sym j.seat.2)),
        all_right (λ (k : ℕ). k ≢ n) (reverse (map number seats)) (joined old) (subst (λ (ks : List ℕ). IsAbsent ks n) j.joins h.1),
      ) in
      let tail : (n : ℕ) → IsAbsent (joined new) n → IsAbsent (joined mid) n = λ n h. all_tail (λ (k : ℕ). k ≢ n) (number other) (joined mid) (subst (λ (ks : List ℕ). IsAbsent ks n) counts.1 h) in
      let head : (n : ℕ) → IsAbsent (joined new) n → n ≢ number other = λ n h e. all_head (λ (k : ℕ). k ≢ n) (number other) (joined mid) (subst (λ (ks : List ℕ). IsAbsent ks n) counts.1 h) (sym e) in
      let longer : All (λ s. Grows (λ n. n ≢ number s) (seen s) (seen new)) seats = λ k d h.
      let s = get_or seats k d in grows_on (λ n. n ≢ number s) (IsOther mid) (λ n o. j.gone k d h n o.1) (seen s) (seen mid) (seen new) (j.theirs k d h) own in
      let still : All (λ s. (n : ℕ) → IsAbsent (joined new) n → n ≢ number s) seats = λ k d h n o. j.gone k d h n (tail n o) in
      record {
        seat = is;
        splits = counts.0 ∙ j.splits;
        joins = counts.1 ∙ ap (λ (ks : List ℕ). number other ∷ ks) j.joins ∙ ap (λ (ks : List ℕ). ks ++ joined old) (sym (ap reverse named ∙ reverse-append (map number seats) (number other ∷ [])));
        out = omega arith;
        one = subst (λ l. Contains (seen old ∷ l) (seen new)) (sym lists) (elim one [
          | inl same ↦ Contains-append_left (seen old ∷ map seen seats) (seen other ∷ []) (seen new) (subst (Contains (seen old ∷ map seen seats)) (sym same) j.one)
          | inr same ↦ subst (Contains ((seen old ∷ map seen seats) ++ seen other ∷ [])) (sym same) (Contains-push (seen old ∷ map seen seats) (seen other))
        ]);
        own = grows_on (IsOther old) (IsOther mid) other_mid (seen old) (seen mid) (seen new) j.own own;
        theirs = All-push (λ s. Grows (λ n. n ≢ number s) (seen s) (seen new)) seats other longer theirs;
        gone = All-push (λ s. (n : ℕ) → IsAbsent (joined new) n → n ≢ number s) seats other still head;
        numbered = λ _. numbered;
      }
