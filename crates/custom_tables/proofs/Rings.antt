-- The last so many of a list that grows at its end.
use Rattle.std.proofs.Common.{◌≡◌, ℕ, ◌+◌, ◌-◌, ◌<◌, ◌≤◌, ◌∙◌, ap, sym, arith, length, drop, List, [], ◌∷◌, ◌++◌}
use Rattle.std.proofs.lemmas.List.{drop-drop, drop-append-le, length-append, length-drop}
use Rattle.custom_tables.specs.Held.{last_of}

-- what stands before the last so many, and one more behind it
few_before : (long max : ℕ) → long - max + (long - (long - max) + 1 - max) ≡ long + 1 - max
few_before long max = omega (arith)

within : (long max : ℕ) → long - max ≤ long
within long max = omega (arith)

-- of the last so many and one more the last so many are those of all
pub last_again : {X : Type 0} → (max : ℕ) (xs : List X) (x : X) → last_of max (last_of max xs ++ x ∷ []) ≡ last_of max (xs ++ x ∷ [])
last_again {X} max xs x =
    let n = length xs - max in
    let held : last_of max xs ++ x ∷ [] ≡ drop n (xs ++ x ∷ []) = sym (drop-append-le n xs (x ∷ []) (within (length xs) max)) in
    let long : length (last_of max xs ++ x ∷ []) ≡ length xs - n + 1 = length-append (last_of max xs) (x ∷ []) ∙ ap (λ k. k + 1) (length-drop n xs) in
    let all : length (xs ++ x ∷ []) ≡ length xs + 1 = length-append xs (x ∷ []) in
    let step : drop (length (last_of max xs ++ x ∷ []) - max) (last_of max xs ++ x ∷ []) ≡ drop (length xs - n + 1 - max) (drop n (xs ++ x ∷ [])) = (λ i. drop (long i - max) (held i)) in
    step ∙ drop-drop (length xs - n + 1 - max) n (xs ++ x ∷ []) ∙ ap (λ k. drop k (xs ++ x ∷ [])) (few_before (length xs) max) ∙ ap (λ k. drop (k - max) (xs ++ x ∷ [])) (sym all)

-- where fewer are held nothing goes
pub last_room : {X : Type 0} → (max : ℕ) (xs : List X) (x : X) → length xs < max → last_of max (xs ++ x ∷ []) ≡ xs ++ x ∷ []
last_room max xs x room =
    let all : length (xs ++ x ∷ []) ≡ length xs + 1 = length-append xs (x ∷ []) in
    let none : length (xs ++ x ∷ []) - max ≡ 0 = omega (arith, all, room) in
    (λ i. drop (none i) (xs ++ x ∷ []))

-- where so many are held the first one goes
pub last_full : {X : Type 0} → (max : ℕ) (xs : List X) (x : X) → 1 ≤ max → length xs ≡ max → last_of max (xs ++ x ∷ []) ≡ drop 1 xs ++ x ∷ []
last_full max xs x some full =
    let all : length (xs ++ x ∷ []) ≡ length xs + 1 = length-append xs (x ∷ []) in
    let one : length (xs ++ x ∷ []) - max ≡ 1 = omega (arith, all, full) in
    let first : last_of max (xs ++ x ∷ []) ≡ drop 1 (xs ++ x ∷ []) = (λ i. drop (one i) (xs ++ x ∷ [])) in
    first ∙ drop-append-le 1 xs (x ∷ []) (omega (arith, some, full))
