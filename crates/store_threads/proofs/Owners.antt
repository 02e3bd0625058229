-- What a list has of all seats together.
use Rattle.std.proofs.Common.{length-append, Result, Ok, Err, ◌≡◌, ◌≢◌, ℕ, zero, suc, ◌+◌, ◌<◌, ◌≤◌, ◌==◌, Bool, true, false, cond, List, [], ◌∷◌, ◌++◌, map, length, get_or, All, refl, sym, ap, ap₂, ◌∙◌, subst, arith, eq-eqb, ne_eqb}
use Rattle.std.specs.Prelude.{OnOk, OnErr}
use Rattle.std.specs.List.{AllZip, range_with_len}
use Rattle.std.proofs.lemmas.List.Elements.{All-cons}
use mathlib.Core.Logic.{dite}
use native.Mathlib.Decide.{ℕ_discrete}
use Rattle.turn_lock.specs.Own.{own}
use Rattle.turn_lock.specs.Turns.{Grows, stamp, total}
use Rattle.turn_lock.specs.declared.board.Stands.{Ghosts}
use Rattle.turn_lock.specs.declared.lock.TurnSeat.{TurnSeat}
use Rattle.turn_lock.specs.Words.{number, seen, split_off, IsAtRest, IsFirst, IsOther, IsSame, Overhears}
use Rattle.turn_lock.proofs.Lists.{all_head, all_tail}
use Rattle.turn_lock.proofs.Owned.{own_none, own-grows, own-passed}
use Rattle.osq_value.specs.declared.reading.Reading.{Reading}
use Rattle.session_state.specs.declared.state.AppendError.{AppendError}
use Rattle.shared_store.specs.declared.noted.Noted.{Noted}
use Rattle.session_state.specs.Kept.{Kept}
use Rattle.shared_store.specs.declared.shared.Shared.{Shared}
use Rattle.shared_store.specs.declared.store.Store.{Store}
use Rattle.shared_store.specs.Words.{IsSeatOf}
use Rattle.shared_store.specs.Turns.{InTurn}
use Rattle.shared_store.specs.Answers.{Appends}
use Rattle.shared_store.specs.Seats.{IsSplitFrom, HasAdded, own_count}

-- 1 where two numbers are the same
abbrev one_at : ℕ → ℕ → ℕ
one_at a k = cond (a == k) 1 0

module _ {X : Type 0} where
  pub total_alike : (f h : X → ℕ) → (xs : List X) → All (λ x. f x ≡ h x) xs → total f xs ≡ total h xs
  total_alike f h [] a = refl
  total_alike f h (x ∷ xs) a =
      let here = all_head (λ (y : X). f y ≡ h y) x xs a in let more = total_alike f h xs (all_tail (λ (y : X). f y ≡ h y) x xs a) in omega (arith, here, more)

  pub total_mapped : {Y : Type 0} (f : Y → ℕ) (h : X → Y) (xs : List X) → total f (map h xs) ≡ total (λ x. f (h x)) xs
  total_mapped f h [] = refl
  total_mapped f h (x ∷ xs) = let more = total_mapped f h xs in omega (arith, more)

  total_none : (xs : List X) → total (λ (x : X). 0) xs ≡ 0
  total_none [] = refl
  total_none (x ∷ xs) = let more = total_none xs in omega (arith, more)

  total_both : (f h : X → ℕ) (xs : List X) → total (λ x. f x + h x) xs ≡ total f xs + total h xs
  total_both f h [] = refl
  total_both f h (x ∷ xs) = let more = total_both f h xs in omega (arith, more)

one_below : (a start n : ℕ) → a < start → total (one_at a) (range_with_len start n) ≡ 0
one_below a start zero less = refl
one_below a start (suc n) less =
    let here : one_at a start ≡ 0 = ap (λ (b : Bool). cond b 1 0) (ne_eqb a start (λ e. absurd (omega (arith, e, less)))) in
    let more = one_below a (start + 1) n (omega (arith, less)) in
    omega (arith, here, more)

one_within : (a start n : ℕ) → start ≤ a → a < start + n → total (one_at a) (range_with_len start n) ≡ 1
one_within a start zero least most = absurd (omega (arith, least, most))
one_within a start (suc n) least most = dite (ℕ_discrete a start)
    (λ e. let here : one_at a start ≡ 1 = ap (λ (b : Bool). cond b 1 0) (eq-eqb a start e) in
    let more = one_below a (start + 1) n (omega (arith, e)) in omega (arith, here, more))
    (λ ne. let here : one_at a start ≡ 0 = ap (λ (b : Bool). cond b 1 0) (ne_eqb a start ne) in
    let more = one_within a (start + 1) n (omega (arith, ne, least)) (omega (arith, most)) in omega (arith, here, more))

module _ {E : Type 0} where
  own_more : (x : ℕ × E) (xs : List (ℕ × E)) (k : ℕ) → length (own k (x ∷ xs)) ≡ one_at x.0 k + length (own k xs)
  own_more x xs k = by_bool (x.0 == k)
    where
      by_bool : (b : Bool) → length (cond b (x.1 ∷ own k xs) (own k xs)) ≡ cond b 1 0 + length (own k xs)
      by_bool true = omega arith
      by_bool false = omega arith

  -- a list under the numbers up to n is made of what each of them has
  pub all_owners : (n : ℕ) (xs : List (ℕ × E)) → All (λ x. x.0 ≤ n) xs → length xs ≡ total (λ k. length (own k xs)) (range_with_len 0 (suc n))
  all_owners n [] a = sym (total_none (range_with_len 0 (suc n)))
  all_owners n (x ∷ xs) a =
      let low : x.0 ≤ n = all_head (λ (y : ℕ × E). y.0 ≤ n) x xs a in
      let more = all_owners n xs (all_tail (λ (y : ℕ × E). y.0 ≤ n) x xs a) in
      let one = one_within x.0 0 (suc n) (omega arith) (omega (arith, low)) in
      let split = total_alike (λ k. length (own k (x ∷ xs))) (λ k. one_at x.0 k + length (own k xs)) (range_with_len 0 (suc n)) (λ i d h. own_more x xs _) in
      let both = total_both (one_at x.0) (λ k. length (own k xs)) (range_with_len 0 (suc n)) in
      omega (arith, more, one, split, both)

all_unmapped : {X Y : Type 0} (P : Y → Type 0) (f : X → Y) (xs : List X) → All P (map f xs) → All (λ x. P (f x)) xs
all_unmapped P f [] a = λ k d h. absurd (omega (arith, h))
all_unmapped P f (x ∷ xs) a = All-cons (λ y. P (f y)) x xs (all_head P (f x) (map f xs) a) (all_unmapped P f xs (all_tail P (f x) (map f xs) a))

-- two lists side by side have one total
zip_total : {X Y : Type 0} (R : X → Y → Type 0) (P : X → Type 0) (Q : Y → Type 0) (f : X → ℕ) (h : Y → ℕ) → ((x : X) (y : Y) → R x y → P x → Q y → f x ≡ h y)
    → (xs : List X) (ys : List Y) → AllZip R xs ys → All P xs → All Q ys → total f xs ≡ total h ys
zip_total R P Q f h same [] [] z a b = refl
zip_total R P Q f h same [] (y ∷ ys) z a b = absurd z
zip_total R P Q f h same (x ∷ xs) [] z a b = absurd z
zip_total R P Q f h same (x ∷ xs) (y ∷ ys) z a b =
    let here = same x y z.0 (all_head P x xs a) (all_head Q y ys b) in
    let more = zip_total R P Q f h same xs ys z.1 (all_tail P x xs a) (all_tail Q y ys b) in
    omega (arith, here, more)

module _ {g : Ghosts Shared Kept Noted} where
  -- a turn adds its notes to the seat's own
  pub own_turn : (old mid new : TurnSeat Shared Kept Noted g) (notes : List Noted) → Overhears old mid → number mid ≡ number old → seen new ≡ seen mid ++ stamp (number mid) notes → number new ≡ number old
      → own_count new ≡ own_count old + length notes
  own_turn old mid new notes hears same sees still =
      ap (λ (k : ℕ). length (own k (seen new))) still
      ∙ ap (λ (l : List Noted). length l) (own-passed (number old) (IsOther old) (λ k h. h.0) (seen old) (seen mid) (seen new) (number mid) notes hears sees same)
      ∙ length-append (own (number old) (seen old)) notes

  -- a reading that was added is one note, and one that was refused is none
  pub own_append : (start : Kept) (old new : TurnSeat Shared Kept Noted g) (source : List ℕ) (reading : Reading) (result : Result (ℕ × ℕ) AppendError) → IsSame old new → InTurn start old new (Appends source reading result)
      → OnOk result (own_count new ≡ own_count old + 1) × OnErr result (own_count new ≡ own_count old)
  own_append start old new source reading (Ok numbers) same t =
      (own_turn old t.0 new t.3 t.4.overhears t.4.same.number t.5.sees same.number ∙ ap (λ (l : List Noted). own_count old + length l) t.6.added.1, tt)
  own_append start old new source reading (Err error) same t =
      let none : length t.3 ≡ 0 = ap (λ (l : List Noted). length l) t.6.err.1 in
      let all = own_turn old t.0 new t.3 t.4.overhears t.4.same.number t.5.sees same.number in (tt, omega (arith, all, none))

  -- what a seat that was split off and came back has added stands in what the first has then seen
  has_own : (store : Store) (old new seat : TurnSeat Shared Kept Noted g) (worked : TurnSeat Shared Kept Noted g × ℕ) → HasAdded seat worked → IsSplitFrom store old seat → Grows (λ n. n ≢ number worked.0) (seen worked.0) (seen new)
      → length (own (number seat) (seen new)) ≡ worked.1
  has_own store old new seat worked has is grows =
      let none : own_count seat ≡ 0 = ap (λ (l : List Noted). length l) (own_none (number seat) (seen seat) is.fresh) in
      let added = has.added in
      let all : length (own (number worked.0) (seen new)) ≡ own_count worked.0 = ap (λ (l : List Noted). length l) (own-grows (number worked.0) (λ n. n ≢ number worked.0) (λ k h. h) (seen worked.0) (seen new) grows) in
      ap (λ (k : ℕ). length (own k (seen new))) (sym has.same.number) ∙ omega (arith, all, added, none)

  -- what the first seat has seen behind the joins is what it had added, and what all others have
  pub adds_all : (store : Store) (old mid new : TurnSeat Shared Kept Noted g) (n : ℕ) (seats : List (TurnSeat Shared Kept Noted g)) (worked : List (TurnSeat Shared Kept Noted g × ℕ))
      → IsFirst old → split_off old ≡ 0 → IsFirst mid → split_off mid ≡ split_off old + n → seen mid ≡ seen old → map number seats ≡ range_with_len (split_off old + 1) n → All (IsSplitFrom store old) seats
      → AllZip HasAdded seats worked → split_off new ≡ split_off mid → Overhears mid new → All (λ s. Grows (λ k. k ≢ number s) (seen s) (seen new)) (map (λ w. w.0) worked) → All (λ x. x.0 ≤ split_off new) (seen new)
      → length (seen new) ≡ own_count old + total (λ w. w.1) worked
  adds_all store old mid new n seats worked first fresh first_mid split sees numbers all has still hears theirs numbered =
      let F : ℕ → ℕ = λ k. length (own k (seen new)) in
      let most : split_off new ≡ n = omega (arith, still, split, fresh) in
      let owners = all_owners n (seen new) (subst (λ (k : ℕ). All (λ x. x.0 ≤ k) (seen new)) most numbered) in
      let mine : F 0 ≡ own_count old = ap (λ (l : List Noted). length l) (own-grows 0 (IsOther mid) (λ k h e. h.0 (e ∙ sym first_mid)) (seen mid) (seen new) hears)
      ∙ ap₂ (λ (k : ℕ) (l : List _). length (own k l)) (sym first) sees in
      let range : map number seats ≡ range_with_len 1 n = numbers ∙ ap (λ (k : ℕ). range_with_len (k + 1) n) fresh in
      let others : total F (range_with_len 1 n) ≡ total (λ s. F (number s)) seats = ap (λ (l : List ℕ). total F l) (sym range) ∙ total_mapped F number seats in
      let each = zip_total HasAdded (IsSplitFrom store old) (λ w. Grows (λ k. k ≢ number w.0) (seen w.0) (seen new)) (λ s. F (number s)) (λ w. w.1) (has_own store old new)
      seats worked has all (all_unmapped (λ s. Grows (λ k. k ≢ number s) (seen s) (seen new)) (λ w. w.0) worked theirs) in
      omega (arith, owners, mine, others, each)

pub zip_of : {X Y : Type 0} (R : X → Y → Type 0) (xs : List X) (ys : List Y) → length ys ≡ length xs → ((i : ℕ) (d : X) (e : Y) → i < length xs → R (get_or xs i d) (get_or ys i e)) → AllZip R xs ys
zip_of R [] [] long each = tt
zip_of R [] (y ∷ ys) long each = absurd (omega (arith, long))
zip_of R (x ∷ xs) [] long each = absurd (omega (arith, long))
zip_of R (x ∷ xs) (y ∷ ys) long each = (each 0 x y (omega arith), zip_of R xs ys (omega (arith, long)) (λ i d e h. each (suc i) d e (omega (arith, h))))

pub zip_length : {X Y : Type 0} (R : X → Y → Type 0) (xs : List X) (ys : List Y) → AllZip R xs ys → length ys ≡ length xs
zip_length R [] [] z = refl
zip_length R [] (y ∷ ys) z = absurd z
zip_length R (x ∷ xs) [] z = absurd z
zip_length R (x ∷ xs) (y ∷ ys) z = let more = zip_length R xs ys z.1 in omega (arith, more)

module _ {g : Ghosts Shared Kept Noted} where
  -- seats that were split off and came back can be joined
  pub came_back : (store : Store) (old : TurnSeat Shared Kept Noted g) (seats : List (TurnSeat Shared Kept Noted g)) (worked : List (TurnSeat Shared Kept Noted g × ℕ)) → All (IsSplitFrom store old) seats → AllZip HasAdded seats worked
      → All (λ s. IsSeatOf store s × IsAtRest s × (number s ≢ 0)) (map (λ w. w.0) worked)
  came_back store old [] [] a z = λ k d h. absurd (omega (arith, h))
  came_back store old [] (w ∷ ws) a z = absurd z
  came_back store old (s ∷ ss) [] a z = absurd z
  came_back store old (s ∷ ss) (w ∷ ws) a z =
      let is = all_head (IsSplitFrom store old) s ss a in
      All-cons (λ s. IsSeatOf store s × IsAtRest s × (number s ≢ 0)) w.0 (map (λ w. w.0) ws)
      ((z.0.same.table ∙ is.of.0, z.0.same.start ∙ is.of.1), z.0.rest, λ e. is.later (sym z.0.same.number ∙ e))
      (came_back store old ss ws (all_tail (IsSplitFrom store old) s ss a) z.1)

  pub joinable : (store : Store) (old : TurnSeat Shared Kept Noted g) (seats back : List (TurnSeat Shared Kept Noted g)) (worked : List (TurnSeat Shared Kept Noted g × ℕ)) → All (IsSplitFrom store old) seats → AllZip HasAdded seats worked → back ≡ map (λ w. w.0) worked
      → All (λ s. IsSeatOf store s × IsAtRest s × (number s ≢ 0)) back
  joinable store old seats back worked a z is = subst (All (λ s. IsSeatOf store s × IsAtRest s × (number s ≢ 0))) (sym is) (came_back store old seats worked a z)
