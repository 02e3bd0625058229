-- The entries of one seat, as its list grows.
use Rattle.std.proofs.Common.{◌≡◌, ◌≢◌, ℕ, suc, ◌+◌, ◌≤◌, length, arith, ◌==◌, Bool, true, false, cond, List, [], ◌∷◌, ◌++◌, All, refl, sym, ap, ap₂, ◌∙◌, subst, append-nil}
use Rattle.std.proofs.Common.{eq-eqb, ne_eqb}
use Rattle.turn_lock.specs.Turns.{Grows, stamp}
use Rattle.turn_lock.specs.Own.{own}
use mathlib.Core.Logic.{dite}
use native.Mathlib.Decide.{ℕ_discrete}
use Rattle.turn_lock.proofs.Lists.{all_head, all_tail}

cond_front : {E : Type 0} (b : Bool) (e : E) (xs ys all : List E) → all ≡ xs ++ ys → cond b (e ∷ all) all ≡ cond b (e ∷ xs) xs ++ ys
cond_front true e xs ys all h = ap (λ (z : List _). e ∷ z) h
cond_front false e xs ys all h = h

module _ {E : Type 0} (n : ℕ) where
  pub own-append : (xs ys : List (ℕ × E)) → own n (xs ++ ys) ≡ own n xs ++ own n ys
  own-append [] ys = refl
  own-append (x ∷ xs) ys = cond_front (x.0 == n) x.1 (own n xs) (own n ys) (own n (xs ++ ys)) (own-append xs ys)

  pub own_none : (xs : List (ℕ × E)) → All (λ x. x.0 ≢ n) xs → own n xs ≡ []
  own_none [] a = refl
  own_none (x ∷ xs) a =
      ap (λ (b : Bool). cond b (x.1 ∷ own n xs) (own n xs)) (ne_eqb x.0 n (all_head (λ (y : ℕ × E). y.0 ≢ n) x xs a)) ∙ own_none xs (all_tail (λ (y : ℕ × E). y.0 ≢ n) x xs a)

  pub own-stamp : (es : List E) → own n (stamp n es) ≡ es
  own-stamp [] = refl
  own-stamp (e ∷ es) = ap (λ (b : Bool). cond b (e ∷ own n (stamp n es)) (own n (stamp n es))) (eq-eqb n n refl) ∙ ap (λ (z : List E). e ∷ z) (own-stamp es)

  -- entries of other seats leave it as it is
  pub own-grows : (P : ℕ → Type 0) → ((k : ℕ) → P k → k ≢ n) → (xs ys : List (ℕ × E)) → Grows P xs ys → own n ys ≡ own n xs
  own-grows P other xs ys g =
      ap (λ (l : List (ℕ × E)). own n l) g.1 ∙ (own-append xs g.0 ∙ (ap (λ (z : List E). own n xs ++ z) (own_none g.0 (λ k d h. other _ (g.2 k d h))) ∙ append-nil (own n xs)))

  -- a turn adds its own entries, behind those of others
  pub own-passed : (P : ℕ → Type 0) → ((k : ℕ) → P k → k ≢ n) → (old mid new : List (ℕ × E)) (m : ℕ) (es : List E) → Grows P old mid → new ≡ mid ++ stamp m es → m ≡ n → own n new ≡ own n old ++ es
  own-passed P other old mid new m es g is same =
      ap (λ (l : List (ℕ × E)). own n l) (is ∙ ap (λ (k : ℕ). mid ++ stamp k es) same) ∙ (own-append mid (stamp n es) ∙ ap₂ (λ (x y : List E). x ++ y) (own-grows P other old mid g) (own-stamp es))

-- a list under the numbers up to 2 is made of the entries of three seats
pub three_owners : {E : Type 0} (xs : List (ℕ × E)) → All (λ x. x.0 ≤ 2) xs → length xs ≡ length (own 0 xs) + (length (own 1 xs) + length (own 2 xs))
three_owners [] a = refl
three_owners {E} (x ∷ xs) a =
    let P : ℕ → Type 0 = λ k. suc (length xs) ≡ length (cond (k == 0) (x.1 ∷ own 0 xs) (own 0 xs)) + (length (cond (k == 1) (x.1 ∷ own 1 xs) (own 1 xs)) + length (cond (k == 2) (x.1 ∷ own 2 xs) (own 2 xs))) in
    let low : x.0 ≤ 2 = all_head (λ (y : ℕ × E). y.0 ≤ 2) x xs a in
    let more = three_owners xs (all_tail (λ (y : ℕ × E). y.0 ≤ 2) x xs a) in
    dite (ℕ_discrete x.0 0) (λ e. let q : P 0 = omega arith in subst P (sym e) q)
    (λ n. dite (ℕ_discrete x.0 1) (λ e. let q : P 1 = omega arith in subst P (sym e) q)
    (λ m. let e : x.0 ≡ 2 = omega arith in let q : P 2 = omega arith in subst P (sym e) q))
