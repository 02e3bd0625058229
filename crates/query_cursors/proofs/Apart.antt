-- A walk over a list that looks for each thing among those before it.
use Rattle.std.proofs.Common.{◌≡◌, ℕ, zero, suc, ◌+◌, ◌<◌, Bool, true, false, cond, List, [], ◌∷◌, ◌++◌, length, get_or, take, refl, sym, ap, ◌∙◌, subst, arith}
use Rattle.std.specs.Prelude.{◌||◌}
use Rattle.std.specs.List.{list_any}
use Rattle.std.proofs.lemmas.List.{take_more}
use Rattle.std.proofs.lemmas.List.Folds.{list_any-append, list_any_at, list_any_more}
use Rattle.entry_model.specs.Fits.{IsDistinct}

neither : (a b : Bool) → a ≡ false → b ≡ false → (a || b) ≡ false
neither a b first second = ap (λ (a : Bool). a || b) first ∙ second

none_of_two : (a b : Bool) → (a || b) ≡ false → (a ≡ false) × (b ≡ false)
none_of_two true b h = absurd (cc)
none_of_two false b h = (refl, h)

either : (a b : Bool) → cond b true a ≡ (a || b)
either true true = refl
either true false = refl
either false true = refl
either false false = refl

-- what is known of keys, where one more thing has its key noted
module _ {X Q : Type 0} (has : X → Q → Bool) (old new : Q → Bool) (xs : List X) (i : ℕ) (x : X) (within : i < length xs) (is : x ≡ get_or xs i x) where
  pub known_more : ((q : Q) → new q ≡ cond (has x q) true (old q)) → ((q : Q) → old q ≡ list_any (λ (y : X). has y q) (take i xs)) → (q : Q) → new q ≡ list_any (λ (y : X). has y q) (take (i + 1) xs)
  known_more noted so_far q =
      noted q
      ∙ ap (cond (has x q) true) (so_far q)
      ∙ either (list_any (λ (y : X). has y q) (take i xs)) (has x q)
      ∙ ap (λ (y : X). list_any (λ (y : X). has y q) (take i xs) || has y q) is
      ∙ sym (list_any_more (λ (y : X). has y q) xs i x within)

module _ {X : Type 0} (same : X → X → Bool) (turn : (x y : X) → same x y ≡ same y x) where
  push_apart : (xs : List X) (x : X) → IsDistinct same xs → list_any (λ (y : X). same y x) xs ≡ false → IsDistinct same (xs ++ x ∷ [])
  push_apart [] x own none = (refl, tt)
  push_apart (y ∷ ys) x own none =
      let k = none_of_two (same y x) (list_any (λ (z : X). same z x) ys) none in
      let late : list_any (λ (z : X). same z y) (ys ++ x ∷ []) ≡ false = list_any-append (λ (z : X). same z y) ys (x ∷ []) ∙ neither (list_any (λ (z : X). same z y) ys) (same x y || false) own.0 (neither (same x y) false (turn x y ∙ k.0) refl) in
      (late, push_apart ys x own.1 k.1)

  -- a thing that is like none of those before it
  pub own_more : (xs : List X) (i : ℕ) (x : X) → i < length xs → x ≡ get_or xs i x → IsDistinct same (take i xs) → list_any (λ (y : X). same y x) (take i xs) ≡ false → IsDistinct same (take (i + 1) xs)
  own_more xs i x within is own none =
      let more : take (i + 1) xs ≡ take i xs ++ x ∷ [] = take_more xs i x within ∙ ap (λ (y : X). take i xs ++ y ∷ []) (sym is) in
      subst (IsDistinct same) (sym more) (push_apart (take i xs) x own none)

  -- a thing that is like one of those before it
  pub found_twice : (xs : List X) (i : ℕ) (x : X) → i < length xs → x ≡ get_or xs i x → list_any (λ (y : X). same y x) (take i xs) ≡ true → IsDistinct same xs → ⊥
  found_twice [] i x within is found own = absurd (omega (arith, within))
  found_twice (y ∷ ys) zero x within is found own = absurd (cc)
  found_twice (y ∷ ys) (suc i) x within is found own = by_first (same y x) refl (found_twice ys i x low is)
    where
      low : i < length ys
      low = omega (arith, within)

      by_first : (b : Bool) → same y x ≡ b → (list_any (λ (z : X). same z x) (take i ys) ≡ true → IsDistinct same ys → ⊥) → ⊥
      by_first true first later =
          let again : list_any (λ (z : X). same z y) ys ≡ true = list_any_at (λ (z : X). same z y) ys i x low (ap (λ (z : X). same z y) (sym is) ∙ turn x y ∙ first) in
          absurd (let alone = own.0 in cc)
      by_first false first later =
          later (sym (ap (λ (b : Bool). b || list_any (λ (z : X). same z x) (take i ys)) first) ∙ found) own.1
