-- Behind the end of a window nothing is kept.
use Rattle.std.proofs.Common.{◌≡◌, ℕ, ◌+◌, ◌&&◌, not, Bool, true, false, List, [], ◌∷◌, ℤ, pos, negsuc, Option, Some, None, refl, ap, ◌∙◌, arith}
use Rattle.std.specs.Prelude.{int_lt}
use Rattle.sql_scalar.specs.Windows.{inside, is_past, kept}

never : (a : Bool) → (a && false) ≡ false
never true = refl
never false = refl

not_before : (low high : ℤ) (position : ℕ) → not (int_lt (pos position) high) ≡ true → inside low (Some high) position ≡ false
not_before low high position past = by (int_lt (pos position) high) refl where
  by : (b : Bool) → int_lt (pos position) high ≡ b → inside low (Some high) position ≡ false
  by true e = absurd (let no : ⊥ = cc in no)
  by false e = ap (λ b. not (int_lt (pos position) low) && b) e ∙ never (not (int_lt (pos position) low))

still_past : (high : ℤ) (position : ℕ) → not (int_lt (pos position) high) ≡ true → not (int_lt (pos (position + 1)) high) ≡ true
still_past (pos h) position past = grind arith
still_past (negsuc h) position past = refl

none_kept : {X : Type 0} (low high : ℤ) (position : ℕ) (items : List X) → not (int_lt (pos position) high) ≡ true
    → kept (inside low (Some high)) position items ≡ []
none_kept low high position [] past = refl
none_kept low high position (item ∷ rest) past =
    rw (not_before low high position past) (none_kept low high (position + 1) rest (still_past high position past))

pub nothing_past : {X : Type 0} (low : ℤ) (high : Option ℤ) (position : ℕ) (items : List X) → is_past high position ≡ true
    → kept (inside low high) position items ≡ []
nothing_past low None position items past = absurd (let no : ⊥ = cc in no)
nothing_past low (Some high) position items past = none_kept low high position items past
