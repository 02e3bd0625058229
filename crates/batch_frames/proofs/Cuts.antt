-- Where texts of numbers end.
use Rattle.std.proofs.Common.{◌≡◌, ℕ, Bool, true, false, List, [], ◌∷◌, ◌++◌, refl, sym, ap, ◌∙◌, ◌==◌, drop}
use Rattle.std.specs.Prelude.{◌||◌}
use Rattle.std.specs.List.{list_any}
use Rattle.std.proofs.lemmas.Bool.{both_ways, eq-eqb, eqb-true}
use Rattle.batch_frames.specs.Ends.{is_end, IsAtEnd, BeginsWithEnd, begins_with}

neither : (a b : Bool) → (a || b) ≡ false → (a ≡ false) × (b ≡ false)
neither true b h = absurd (let no : ⊥ = cc in no)
neither false b h = (refl, h)

-- a test that no item of a list passes
pub none_passes : {X : Type 0} → (test : X → Bool) (x : X) (xs : List X) → list_any test (x ∷ xs) ≡ false → (test x ≡ false) × (list_any test xs ≡ false)
none_passes test x xs h = neither (test x) (list_any test xs) h

unlike : (c d : ℕ) → is_end c ≡ false → is_end d ≡ true → c ≡ d → ⊥
unlike c d isnt is e = let f : is_end c ≡ is_end d = ap is_end e in let bad : false ≡ true = sym isnt ∙ f ∙ is in let gone : ⊥ = cc in gone

-- two lists without an end, each with an end or nothing behind it, are one
pub cut_once : (a x b y : List ℕ) → list_any is_end a ≡ false → IsAtEnd x → list_any is_end b ≡ false → BeginsWithEnd y → a ++ x ≡ b ++ y → (a ≡ b) × (x ≡ y)
cut_once [] x [] y ha hx hb hy e = (refl, e)
cut_once [] [] (c ∷ bs) y ha hx hb hy e = absurd (let no : ⊥ = cc in no)
cut_once [] (d ∷ x) (c ∷ bs) y ha hx hb hy e = absurd (unlike c d ((none_passes is_end c bs hb).0) hx (let same : c ≡ d = cc in same))
cut_once (c ∷ cs) x [] [] ha hx hb hy e = absurd hy
cut_once (c ∷ cs) x [] (d ∷ y) ha hx hb hy e = absurd (unlike c d ((none_passes is_end c cs ha).0) hy (let same : c ≡ d = cc in same))
cut_once (c ∷ cs) x (d ∷ bs) y ha hx hb hy e =
    let heads : c ≡ d = cc in
    let tails : cs ++ x ≡ bs ++ y = cc in
    let (fronts, rests) = cut_once cs x bs y ((none_passes is_end c cs ha).1) hx ((none_passes is_end d bs hb).1) hy tails in
    ((cc), rests)

heads : (c d : ℕ) (xs ys : List ℕ) → c ∷ xs ≡ d ∷ ys → c ≡ d
heads c d xs ys e = let same : c ≡ d = cc in same

-- two lists that begin with different bytes are not one
pub unlike_heads : (c d : ℕ) (xs ys : List ℕ) → c ∷ xs ≡ d ∷ ys → (c == d) ≡ false → ⊥
unlike_heads c d xs ys e apart = both_ways (c == d) apart (eq-eqb c d (heads c d xs ys e))

-- bytes by the first of them
pub first_is : (bytes : List ℕ) (b : ℕ) → begins_with b bytes ≡ true → bytes ≡ b ∷ drop 1 bytes
first_is [] b e = absurd (let gone : ⊥ = cc in gone)
first_is (c ∷ cs) b e = ap (λ x. x ∷ cs) (eqb-true c b e)
