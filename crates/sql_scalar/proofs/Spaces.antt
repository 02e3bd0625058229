-- Spaces at the ends of a text.
use Rattle.std.proofs.Common.{◌≡◌, ◌≢◌, ℕ, ◌==◌, Bool, true, false, List, [], ◌∷◌, ◌++◌, reverse, refl, ap, sym, ◌∙◌, eqb-true}
use Rattle.std.proofs.lemmas.List.{reverse-reverse, reverse-append}
use Rattle.sql_scalar.specs.Texts.{behind_spaces}

-- a text that begins with no space is kept
pub no_space_before : (s : List ℕ) → ((rest : List ℕ) → s ≢ 32 ∷ rest) → behind_spaces s ≡ s
no_space_before [] none = refl
no_space_before (byte ∷ rest) none = by_test (byte == 32) refl where
  by_test : (test : Bool) → (byte == 32) ≡ test → behind_spaces (byte ∷ rest) ≡ byte ∷ rest
  by_test true e = absurd (none rest (ap (λ b. b ∷ rest) (eqb-true byte 32 e)))
  by_test false e = rw e refl

-- a text that ends with no space is kept
pub no_space_behind : (s : List ℕ) → ((front : List ℕ) → s ≢ front ++ (32 ∷ [])) → reverse (behind_spaces (reverse s)) ≡ s
no_space_behind s none =
    ap reverse (no_space_before (reverse s) (λ rest e. none (reverse rest) (sym (reverse-reverse s) ∙ ap reverse e
    ∙ reverse-append (32 ∷ []) rest)))
    ∙ reverse-reverse s
