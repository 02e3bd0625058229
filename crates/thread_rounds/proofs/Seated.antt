-- Seats that are split off and joined, one after another.
use Rattle.std.proofs.Common.{◌≡◌, ◌≢◌, ℕ, ◌+◌, ◌<◌, ◌≤◌, List, [], ◌∷◌, ◌++◌, map, length, get_or, All, refl, sym, ap, ap₂, ◌∙◌, subst, arith, length-append}
use Rattle.std.specs.List.{range_with_len}
use Rattle.std.proofs.lemmas.List.{length-map}
use Rattle.std.proofs.lemmas.List.Elements.{All-cons, All-contains_itself, All-head, All-nil, All-tail, All-weaker, Contains-append_left, Contains-append_right}
use Rattle.std.specs.Prelude.{Contains}
use mathlib.Core.List.{map-append}
use Rattle.session_state.specs.Kept.{Kept}
use Rattle.turn_lock.specs.declared.board.Stands.{Ghosts}
use Rattle.turn_lock.specs.declared.lock.TurnSeat.{TurnSeat}
use Rattle.turn_lock.specs.Turns.{Grows, IsAbsent}
use Rattle.turn_lock.specs.Words.{joined, number, seats_out, seen, split_off, IsAtRest, IsFirst, IsOther, IsSame, Overhears}
use Rattle.turn_lock.proofs.Lists.{all_left, all_right, grows_more, grows_none, grows_weaker}
use Rattle.shared_store.specs.declared.noted.Noted.{Noted}
use Rattle.shared_store.specs.declared.shared.Shared.{Shared}
use Rattle.shared_store.specs.declared.store.Store.{Store}
use Rattle.shared_store.specs.Seats.{IsSplitFrom}
use Rattle.shared_store.specs.Words.{IsSeatOf}
use Rattle.shared_store.proofs.Seats.{Splits, splits_one}
use Rattle.thread_laws.specs.Jobs.{Stamped}
use Rattle.thread_laws.specs.Joining.{HasEach}
use Rattle.thread_laws.proofs.Numbers.{each_more}
use Rattle.thread_rounds.specs.Seats.{AreJoined, AreSplit, IsAlone, IsLater, StaysFirst}

pub all_unmapped : {X Y : Type 0} (P : Y → Type 0) (f : X → Y) (xs : List X) → All P (map f xs) → All (λ x. P (f x)) xs
all_unmapped P f [] all = All-nil (λ x. P (f x))
all_unmapped P f (x ∷ xs) all = All-cons (λ x. P (f x)) x xs (All-head P (f x) (map f xs) all) (all_unmapped P f xs (All-tail P (f x) (map f xs) all))

pub all_mapped : {X Y : Type 0} (P : Y → Type 0) (f : X → Y) (xs : List X) → All (λ x. P (f x)) xs → All P (map f xs)
all_mapped P f [] all = All-nil P
all_mapped P f (x ∷ xs) all = All-cons P (f x) (map f xs) (All-head (λ x. P (f x)) x xs all) (all_mapped P f xs (All-tail (λ x. P (f x)) x xs all))

pub map_twice : {X Y Z : Type 0} (f : Y → Z) (h : X → Y) (xs : List X) → map f (map h xs) ≡ map (λ x. f (h x)) xs
map_twice f h [] = refl
map_twice f h (x ∷ xs) = ap (λ (l : List _). f (h x) ∷ l) (map_twice f h xs)

pub pushed_long : {X : Type 0} (xs ys : List X) (x : X) → ys ≡ xs ++ x ∷ [] → length ys ≡ length xs + 1
pushed_long xs ys x is = ap (λ (l : List _). length l) is ∙ length-append xs (x ∷ [])

pub pushed_map : {X Y : Type 0} (f : X → Y) (xs ys : List X) (x : X) → ys ≡ xs ++ x ∷ [] → map f ys ≡ map f xs ++ f x ∷ []
pushed_map f xs ys x is = ap (map f) is ∙ map-append f xs (x ∷ [])

-- a list that grows twice
pub grows_on : {E : Type 0} (P Q : ℕ → Type 0) → ((n : ℕ) → Q n → P n) → (xs ys zs : List (ℕ × E)) → Grows P xs ys → Grows Q ys zs → Grows P xs zs
grows_on P Q weaker xs ys zs g h =
    let more = grows_more P xs ys h.0 g (All-weaker (λ x. Q x.0) (λ x. P x.0) (λ x. weaker x.0) h.0 h.2) in
    subst (λ l. Grows P xs l) (sym h.1) more

module _ {g : Ghosts Shared Kept Noted} where
  pub split_none : (store : Store) (old : TurnSeat Shared Kept Noted g) → StaysFirst store old → AreSplit store old old []
  split_none store old stays = record { stays = stays; sees = refl; splits = omega arith; joins = refl; out = omega arith; numbers = refl; each = All-nil (IsSplitFrom store old) }

  -- one more is split off
  pub split_one : (store : Store) (old mid new seat : TurnSeat Shared Kept Noted g) (seats : List (TurnSeat Shared Kept Noted g)) → AreSplit store old mid seats
      → IsSeatOf store new × IsAtRest new × IsFirst new → (split_off new ≡ split_off mid + 1) × (joined new ≡ joined mid) × (seen new ≡ seen mid) → seats_out new ≡ seats_out mid + 1
      → IsSeatOf store seat × IsAtRest seat → (number seat ≡ split_off new) × (seen seat ≡ seen mid) → All (λ x. x.0 ≢ number seat) (seen seat) → AreSplit store old new (seats ++ seat ∷ [])
  split_one store old mid new seat seats so is counts out of same fresh =
      let before : Splits store old mid seats = record { seat = (so.stays.of, so.stays.rest, so.stays.first); sees = so.sees; splits = so.splits; joins = so.joins; out = so.out; numbers = so.numbers; all = so.each } in
      let more = splits_one store old mid new seat seats before is counts out of same fresh in
      record { stays = record { of = is.0; rest = is.1; first = is.2 }; sees = more.sees; splits = more.splits; joins = more.joins; out = more.out; numbers = more.numbers; each = more.all }

  pub join_none : (store : Store) (old : TurnSeat Shared Kept Noted g) → StaysFirst store old → AreJoined store old old []
  join_none store old stays = record {
    stays = stays;
    splits = refl;
    joins = refl;
    out = omega arith;
    own = grows_none (IsOther old) (seen old);
    theirs = All-nil (λ seat. Grows (λ n. n ≢ number seat) (seen seat) (seen old));
    numbered = λ some. absurd (omega (arith, some));
  }

  -- what is neither the first seat's nor that of one that it has joined by then, is neither before that
  others_before : (store : Store) (old mid : TurnSeat Shared Kept Noted g) (seats : List (TurnSeat Shared Kept Noted g)) → IsFirst old → AreJoined store old mid seats → (n : ℕ) → IsOther mid n → IsOther old n
  others_before store old mid seats first so n other = (
    (λ e. other.0 (e ∙ first ∙ sym so.stays.first)),
    all_right (λ (k : ℕ). k ≢ n) (map number seats) (joined old) (subst (λ (ks : List ℕ). IsAbsent ks n) so.joins other.1),
  )

  -- and it isn't of one of those
  pub others_apart : (store : Store) (old mid : TurnSeat Shared Kept Noted g) (seats : List (TurnSeat Shared Kept Noted g)) → AreJoined store old mid seats → (n : ℕ) → IsOther mid n → All (λ seat. n ≢ number seat) seats
  others_apart store old mid seats so n other =
      All-weaker (λ seat. number seat ≢ n) (λ seat. n ≢ number seat) (λ seat differ e. differ (sym e)) seats
      (all_unmapped (λ (k : ℕ). k ≢ n) number seats (all_left (λ (k : ℕ). k ≢ n) (map number seats) (joined old) (subst (λ (ks : List ℕ). IsAbsent ks n) so.joins other.1)))

  -- one more is joined
  pub join_one : (store : Store) (old mid new seat : TurnSeat Shared Kept Noted g) (seats : List (TurnSeat Shared Kept Noted g)) → IsFirst old → AreJoined store old mid seats
      → IsSeatOf store new × IsAtRest new × IsFirst new → (split_off new ≡ split_off mid) × (joined new ≡ number seat ∷ joined mid) → seats_out mid ≡ seats_out new + 1
      → Overhears mid new → Grows (λ n. n ≢ number seat) (seen seat) (seen new) → All (λ note. note.0 ≤ split_off new) (seen new) → AreJoined store old new (seat ∷ seats)
  join_one store old mid new seat seats first so is counts out own theirs numbered =
      let before = so.out in
      record {
        stays = record { of = is.0; rest = is.1; first = is.2 };
        splits = counts.0 ∙ so.splits;
        joins = counts.1 ∙ ap (λ (ks : List ℕ). number seat ∷ ks) so.joins;
        out = omega (arith, before, out);
        own = grows_on (IsOther old) (IsOther mid) (others_before store old mid seats first so) (seen old) (seen mid) (seen new) so.own own;
        theirs = All-cons (λ other. Grows (λ n. n ≢ number other) (seen other) (seen new)) seat seats theirs
            (λ k d h. grows_on (λ n. n ≢ number (get_or seats k d)) (IsOther mid) (λ n other. others_apart store old mid seats so n other k d h) (seen (get_or seats k d)) (seen mid) (seen new) (so.theirs k d h) own);
        numbered = λ some. numbered;
      }

  -- Where the first seat was alone, split off some, and joined as many with the same numbers, it is alone again.
  pub alone_again : (store : Store) (old mid new : TurnSeat Shared Kept Noted g) (seats others : List (TurnSeat Shared Kept Noted g)) → IsAlone store old → AreSplit store old mid seats → AreJoined store mid new others → map number others ≡ map number seats → IsAlone store new
  alone_again store old mid new seats others was split join same =
      let outs = split.out in
      let ins = join.out in
      let alone = was.alone in
      let long : length others ≡ length seats = sym (length-map others number) ∙ ap (λ (ks : List ℕ). length ks) same ∙ length-map seats number in
      let numbers : map number others ≡ range_with_len (split_off old + 1) (length seats) = same ∙ split.numbers in
      let joined_now : joined new ≡ range_with_len (split_off old + 1) (length seats) ++ joined old = join.joins ∙ ap₂ (λ (ks ls : List ℕ). ks ++ ls) numbers split.joins in
      let range = range_with_len (split_off old + 1) (length seats) in
      let each : HasEach (split_off old + length seats) (range ++ joined old) = each_more (split_off old) (length seats) (joined old) was.joined_all (range ++ joined old)
      (All-weaker (Contains range) (Contains (range ++ joined old)) (Contains-append_left range (joined old)) range (All-contains_itself range))
      (All-weaker (Contains (joined old)) (Contains (range ++ joined old)) (Contains-append_right range (joined old)) (joined old) (All-contains_itself (joined old))) in
      let given : split_off new ≡ split_off old + length seats = join.splits ∙ split.splits in
      record {
        stays = join.stays;
        alone = omega (arith, outs, ins, alone, long);
        joined_all = subst (λ (ks : List ℕ). HasEach (split_off new) ks) (sym joined_now) (subst (λ (n : ℕ). HasEach n (range ++ joined old)) (sym given) each);
      }

  -- a seat that was split off and came back can be joined
  pub later_again : (store : Store) (first old new : TurnSeat Shared Kept Noted g) → IsSplitFrom store first old → IsSame old new → IsAtRest new → IsLater store new
  later_again store first old new was same rest = record {
    of = (same.table ∙ was.of.0, same.start ∙ was.of.1);
    rest = rest;
    later = λ e. was.later (sym same.number ∙ e);
  }

  pub later_split : (store : Store) (first seat : TurnSeat Shared Kept Noted g) → IsSplitFrom store first seat → IsLater store seat
  later_split store first seat is = record { of = is.of; rest = is.rest; later = is.later }

  -- What the first seat has come to with these, which it had split off and then joined: by the list that it had seen before, and by that which it has seen then.
  pub record AreBack (store : Store) (before all : Stamped) (given : ℕ) (gone : List ℕ) (seats backs : List (TurnSeat Shared Kept Noted g)) : Type 0 where
    pub each : HasEach given gone
    pub numbers : map number seats ≡ range_with_len (given + 1) (length seats)
    pub sees : All (λ seat. seen seat ≡ before) seats
    pub of : All (IsSeatOf store) seats
    pub stands : All (λ seat. Grows (λ n. n ≢ number seat) (seen seat) all) backs
    pub grows : Grows (λ n. (n ≢ 0) × IsAbsent gone n) before all
    pub most : 0 < length backs → All (λ note. note.0 ≤ given + length seats) all

  pub are_back : (store : Store) (old mid new : TurnSeat Shared Kept Noted g) (seats backs : List (TurnSeat Shared Kept Noted g)) → IsAlone store old → AreSplit store old mid seats → AreJoined store mid new backs
      → AreBack store (seen old) (seen new) (split_off old) (joined old) seats backs
  are_back store old mid new seats backs was split join = record {
    each = was.joined_all;
    numbers = split.numbers;
    sees = All-weaker (IsSplitFrom store old) (λ seat. seen seat ≡ seen old) (λ seat is. is.sees) seats split.each;
    of = All-weaker (IsSplitFrom store old) (IsSeatOf store) (λ seat is. is.of) seats split.each;
    stands = join.theirs;
    grows =
        grows_weaker (IsOther mid) (λ n. (n ≢ 0) × IsAbsent (joined old) n) (λ n other. ((λ e. other.0 (e ∙ sym split.stays.first)), subst (λ (ks : List ℕ). IsAbsent ks n) split.joins other.1)) (seen old) (seen new)
        (subst (λ l. Grows (IsOther mid) l (seen new)) split.sees join.own);
    most = λ some. subst (λ (n : ℕ). All (λ note. note.0 ≤ n) (seen new)) (join.splits ∙ split.splits) (join.numbered some);
  }
