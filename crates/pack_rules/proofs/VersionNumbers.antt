-- The number of a part's leading digits, as more of them are read, and versions number by number.
use Rattle.std.proofs.Common.{◌≡◌, ◌≢◌, ℕ, ◌+◌, ◌-◌, ◌*◌, ◌^◌, ◌<◌, ◌≤◌, ◌==◌, true, false, List, [], ◌∷◌, length, take, drop, drop-cons, get_or, refl, sym, ap, ◌∙◌, arith, nat_lt, suc}
use Rattle.std.proofs.Math.Nat.{pow-le-pow_right, pow-suc}
use Rattle.std.proofs.lemmas.Bool.{false_from_ne_true}
use Rattle.std.proofs.lemmas.Bool.Decides.{Decides-eqb}
use Rattle.osq_value.specs.Spelling.{is_digit, value_from}
use Rattle.osq_value.specs.Casts.{front_digits}
use Rattle.pack_rules.specs.Versions.{is_at_least}
use Rattle.pack_rules.specs.Walks.{first_number, numbers_behind}

-- a number of at most 17 digits takes one more
pub room : (at n : ℕ) → at < 18 → n < 10 ^ at → n < 10 ^ 17
room at n below small =
    let most : 10 ^ at ≤ 10 ^ 17 = pow-le-pow_right {n = 10} (omega arith) {i = at} {j = 17} (omega (arith, below)) in
    omega (arith, most, small)

pub below_more : (at n digit : ℕ) → digit ≤ 9 → n < 10 ^ at → 10 * n + digit < 10 ^ (at + 1)
below_more at n digit small below =
    let next : 10 ^ suc at ≡ 10 ^ at * 10 = pow-suc 10 at in
    let same : at + 1 ≡ suc at = omega arith in
    rw same (rw next (omega (arith, below, small)))

pub digit_bound : (byte : ℕ) → is_digit byte ≡ true → byte - 48 ≤ 9
digit_bound byte digit = grind (arith, digit)

pub digit_more : (part : List ℕ) (at n : ℕ) → at < length part → at < 18 → is_digit (get_or part at 0) ≡ true
    → value_from n (take (18 - at) (front_digits (drop at part)))
    ≡ value_from (10 * n + (get_or part at 0 - 48)) (take (18 - (at + 1)) (front_digits (drop (at + 1) part)))
digit_more part at n within below digit =
    let left : 18 - at ≡ suc (18 - (at + 1)) = omega (arith, below) in
    let next : suc at ≡ at + 1 = omega arith in
    let front : drop at part ≡ get_or part at 0 ∷ drop (at + 1) part = drop-cons part at 0 within ∙ ap (λ k. get_or part at 0 ∷ drop k part) next in
    rw front (rw digit (rw left refl))

-- the numbers of a version and of the least one, which has a next number
pub same_number : (numbers rest : List ℕ) (least : ℕ) → first_number numbers ≡ least → is_at_least numbers (least ∷ rest) ≡ is_at_least (numbers_behind numbers) rest
same_number [] rest least is = let same : (least == 0) ≡ true = (Decides-eqb least 0).1 (sym is) in rw same refl
same_number (number ∷ numbers) rest least is = let same : (number == least) ≡ true = (Decides-eqb number least).1 is in rw same refl

pub other_number : (numbers rest : List ℕ) (least : ℕ) → first_number numbers ≢ least → is_at_least numbers (least ∷ rest) ≡ nat_lt least (first_number numbers)
other_number [] rest least other =
    let not_zero : (least == 0) ≡ false = false_from_ne_true _ (λ same. other (sym ((Decides-eqb least 0).0 same))) in rw not_zero (not_below least)
  where
    not_below : (n : ℕ) → false ≡ nat_lt n 0
    not_below n = grind arith
other_number (number ∷ numbers) rest least other =
    let different : (number == least) ≡ false = false_from_ne_true _ (λ same. other ((Decides-eqb number least).0 same)) in rw different refl
