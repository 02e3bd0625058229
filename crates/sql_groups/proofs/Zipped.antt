-- Two lists that agree place by place.
use Rattle.std.proofs.Common.{◌≡◌, ℕ, zero, suc, ◌+◌, ◌<◌, ◌≤◌, refl, sym, ap, ◌∙◌, List, [], ◌∷◌, ◌++◌, get_or, length, map, set, take, arith}
use Rattle.std.proofs.lemmas.List.{map-append, take_more}
use Rattle.std.specs.List.{AllZip}

-- what was made of the first items, with what is made of one more
pub made-more : {A C : Type 0} (f : A → C) (xs : List A) (i : ℕ) (d : A) (made : List C) (one : C) → made ≡ map f (take i xs) → i < length xs → one ≡ f (get_or xs i d) → made ++ one ∷ [] ≡ map f (take (i + 1) xs)
made-more f xs i d made one is h told =
    (λ j. is j ++ told j ∷ []) ∙ sym (map-append f (take i xs) (get_or xs i d ∷ [])) ∙ ap (map f) (sym (take_more xs i d h))

module _ {A B : Type 0} (R : A → B → Type 0) where
  pub zip-long : (xs : List A) (ys : List B) → AllZip R xs ys → length xs ≡ length ys
  zip-long [] [] all = refl
  zip-long [] (q ∷ qs) all = absurd all
  zip-long (p ∷ ps) [] all = absurd all
  zip-long (p ∷ ps) (q ∷ qs) all = ap suc (zip-long ps qs all.1)

  pub zip-push : (xs : List A) (ys : List B) (x : A) (y : B) → AllZip R xs ys → R x y → AllZip R (xs ++ x ∷ []) (ys ++ y ∷ [])
  zip-push [] [] x y all one = (one, tt)
  zip-push [] (q ∷ qs) x y all one = absurd all
  zip-push (p ∷ ps) [] x y all one = absurd all
  zip-push (p ∷ ps) (q ∷ qs) x y all one = (all.0, zip-push ps qs x y all.1 one)

  pub zip-set : (xs : List A) (ys : List B) (i : ℕ) (x : A) (y : B) → AllZip R xs ys → R x y → AllZip R (set xs i x) (set ys i y)
  zip-set [] [] i x y all one = tt
  zip-set [] (q ∷ qs) i x y all one = absurd all
  zip-set (p ∷ ps) [] i x y all one = absurd all
  zip-set (p ∷ ps) (q ∷ qs) zero x y all one = (one, all.1)
  zip-set (p ∷ ps) (q ∷ qs) (suc i) x y all one = (all.0, zip-set ps qs i x y all.1 one)

  pub zip-nth : (xs : List A) (ys : List B) (i : ℕ) (d : A) (e : B) → AllZip R xs ys → i < length ys → R (get_or xs i d) (get_or ys i e)
  zip-nth [] [] i d e all h = absurd (omega arith)
  zip-nth [] (q ∷ qs) i d e all h = absurd all
  zip-nth (p ∷ ps) [] i d e all h = absurd all
  zip-nth (p ∷ ps) (q ∷ qs) zero d e all h = all.0
  zip-nth (p ∷ ps) (q ∷ qs) (suc i) d e all h = zip-nth ps qs i d e all.1 (omega arith)

module _ {A B : Type 0} (R S : A → B → Type 0) where
  -- the first so many places agree by S, the others by R
  abbrev pub Turning : ℕ → List A → List B → Type 0
  Turning zero xs ys = AllZip R xs ys
  Turning (suc i) [] [] = Unit {0}
  Turning (suc i) [] (y ∷ ys) = ⊥
  Turning (suc i) (x ∷ xs) [] = ⊥
  Turning (suc i) (x ∷ xs) (y ∷ ys) = S x y × Turning i xs ys

  pub turn : (i : ℕ) (xs : List A) (ys : List B) (e y : B) → Turning i xs ys → i < length ys → ((x : A) → R x (get_or ys i e) → S x y) → Turning (suc i) xs (set ys i y)
  turn zero [] [] e y all h more = tt
  turn zero [] (q ∷ qs) e y all h more = absurd all
  turn zero (p ∷ ps) [] e y all h more = absurd all
  turn zero (p ∷ ps) (q ∷ qs) e y all h more = (more p all.0, all.1)
  turn (suc i) [] [] e y all h more = tt
  turn (suc i) [] (q ∷ qs) e y all h more = absurd all
  turn (suc i) (p ∷ ps) [] e y all h more = absurd all
  turn (suc i) (p ∷ ps) (q ∷ qs) e y all h more = (all.0, turn i ps qs e y all.1 (omega arith) more)

  pub turned : (i : ℕ) (xs : List A) (ys : List B) → Turning i xs ys → length ys ≤ i → AllZip S xs ys
  turned zero [] [] all h = tt
  turned zero [] (q ∷ qs) all h = absurd all
  turned zero (p ∷ ps) [] all h = absurd all
  turned zero (p ∷ ps) (q ∷ qs) all h = absurd (omega arith)
  turned (suc i) [] [] all h = tt
  turned (suc i) [] (q ∷ qs) all h = absurd all
  turned (suc i) (p ∷ ps) [] all h = absurd all
  turned (suc i) (p ∷ ps) (q ∷ qs) all h = (all.0, turned i ps qs all.1 (omega arith))
