-- What digits stand for, as more of them are read.
use Rattle.std.proofs.Common.{◌≡◌, ℕ, ◌+◌, ◌-◌, ◌*◌, ◌<◌, ◌≤◌, List, [], ◌∷◌, ◌++◌, refl, subst, arith, ap, ◌∙◌, sym, take, drop, length, take-append-drop, get_or}
use Rattle.std.proofs.lemmas.List.{take_more, take_all}
use Rattle.osq_value.specs.Spelling.{value_from, value_of}

pub value_from-append : (n : ℕ) (xs ys : List ℕ) → value_from n (xs ++ ys) ≡ value_from (value_from n xs) ys
value_from-append n [] ys = refl
value_from-append n (b ∷ bs) ys = value_from-append (10 * n + (b - 48)) bs ys

pub value_from-grows : (n : ℕ) (xs : List ℕ) → n ≤ value_from n xs
value_from-grows n [] = omega arith
value_from-grows n (b ∷ bs) = omega (arith, value_from-grows (10 * n + (b - 48)) bs)

-- one digit more
pub value-more : (xs : List ℕ) (i d : ℕ) → i < length xs → value_of (take (i + 1) xs) ≡ 10 * value_of (take i xs) + (get_or xs i d - 48)
value-more xs i d within = ap value_of (take_more xs i d within) ∙ value_from-append 0 (take i xs) (get_or xs i d ∷ [])

-- what the front stands for is no more than what all stand for
pub value-front : (xs : List ℕ) (i : ℕ) → value_of (take i xs) ≤ value_of xs
value-front xs i =
    subst (λ v. value_of (take i xs) ≤ v)
    (sym (value_from-append 0 (take i xs) (drop i xs)) ∙ ap value_of (take-append-drop i xs))
    (value_from-grows (value_of (take i xs)) (drop i xs))

pub value_all : (xs : List ℕ) (i : ℕ) → length xs ≤ i → value_of (take i xs) ≡ value_of xs
value_all xs i past = ap value_of (take_all i xs past)
