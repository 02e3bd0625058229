-- Where a test of the rests of a text holds.
use Rattle.std.proofs.Common.{◌≡◌, ℕ, ◌==◌, ◌||◌, ◌&&◌, Bool, true, false, List, [], ◌∷◌, ap, ◌∙◌, refl}
use Rattle.sql_scalar.specs.Likeness.{somewhere, one_and, fits_one, is_like}

-- a test holds of what is left of a text behind one or more of its characters
abbrev pub later : (List ℕ → Bool) → List ℕ → Bool
later test [] = false
later test (char ∷ rest) = somewhere test rest

or-left : (a b : Bool) → a ≡ true → (a || b) ≡ true
or-left true b e = refl
or-left false b e = cc

or-right : (a b : Bool) → b ≡ true → (a || b) ≡ true
or-right true b e = refl
or-right false b e = e

or-cases : (a b : Bool) {P : Type 0} → (a || b) ≡ true → (a ≡ true → P) → (b ≡ true → P) → P
or-cases true b e f g = f refl
or-cases false b e f g = g e

pub here : (test : List ℕ → Bool) (text : List ℕ) → test text ≡ true → somewhere test text ≡ true
here test [] e = e
here test (char ∷ rest) e = or-left (test (char ∷ rest)) (somewhere test rest) e

pub from_later : (test : List ℕ → Bool) (text : List ℕ) → later test text ≡ true → somewhere test text ≡ true
from_later test [] e = cc
from_later test (char ∷ rest) e = or-right (test (char ∷ rest)) (somewhere test rest) e

-- somewhere somewhere is somewhere
pub twice : (test : List ℕ → Bool) (text : List ℕ) → somewhere (somewhere test) text ≡ true → somewhere test text ≡ true
twice test [] e = e
twice test (char ∷ rest) e = or-cases (somewhere test (char ∷ rest)) (somewhere (somewhere test) rest) e (λ h. h)
    (λ h. from_later test (char ∷ rest) (twice test rest h))

and-right : (a b : Bool) → (a && b) ≡ true → b ≡ true
and-right true b e = e
and-right false b e = cc

-- where one character and then a test hold somewhere, the test holds somewhere behind the first character
behind_one : (sign : ℕ) (test : List ℕ → Bool) (text : List ℕ) → somewhere (one_and sign test) text ≡ true → somewhere test text ≡ true
behind_one sign test [] e = cc
behind_one sign test (char ∷ rest) e =
    from_later test (char ∷ rest) (or-cases (fits_one sign char && test rest) (somewhere (one_and sign test) rest) e
    (λ h. here test rest (and-right (fits_one sign char) (test rest) h)) (λ h. behind_one sign test rest h))

pub behind_first : (sign : ℕ) (test : List ℕ → Bool) (char : ℕ) (rest : List ℕ)
    → somewhere (one_and sign test) (char ∷ rest) ≡ true → somewhere test rest ≡ true
behind_first sign test char rest e =
    or-cases (fits_one sign char && test rest) (somewhere (one_and sign test) rest) e
    (λ h. here test rest (and-right (fits_one sign char) (test rest) h)) (λ h. behind_one sign test rest h)

pub somewhere-alike : (f g : List ℕ → Bool) → ((text : List ℕ) → f text ≡ g text) → (text : List ℕ) → somewhere f text ≡ somewhere g text
somewhere-alike f g same [] = same []
somewhere-alike f g same (char ∷ rest) = ap (λ b. b || somewhere f rest) (same (char ∷ rest))
    ∙ ap (λ b. g (char ∷ rest) || b) (somewhere-alike f g same rest)

pub as_one : (sign : ℕ) (others : List ℕ) → (sign == 37) ≡ false → (text : List ℕ)
    → is_like (sign ∷ others) text ≡ one_and sign (is_like others) text
as_one sign others e text = rw e refl

-- behind a `%` that ends the pattern anything stands
pub anything : (others text : List ℕ) → others ≡ [] → somewhere (is_like others) text ≡ true
anything others text none = ap (λ s. somewhere (is_like s) text) none ∙ by text where
  by : (rest : List ℕ) → somewhere (is_like []) rest ≡ true
  by [] = refl
  by (char ∷ rest) = by rest
