-- The least of some numbers, which are looked at in turn.
use Rattle.std.proofs.Common.{◌≡◌, ℕ, List, [], ◌∷◌, ◌++◌, Option, Some, None, refl, ap, ◌∙◌, arith}
use Rattle.std.specs.Prelude.{min}
use Rattle.entry_model.specs.Views.{least_of, lesser}

-- one number more
pub least_more : (numbers : List ℕ) (last : ℕ) → least_of (numbers ++ last ∷ []) ≡ Some (lesser last (least_of numbers))
least_more [] last = refl
least_more (number ∷ numbers) last = ap (λ (o : Option ℕ). Some (lesser number o)) (least_more numbers last) ∙ by_rest (least_of numbers)
  where
    by_rest : (o : Option ℕ) → Some (lesser number (Some (lesser last o))) ≡ Some (lesser last (Some (lesser number o)))
    by_rest None =
        let turned : min number last ≡ min last number = omega arith in
        ap (λ (n : ℕ). Some n) turned
    by_rest (Some other) =
        let turned : min number (min last other) ≡ min last (min number other) = omega arith in
        ap (λ (n : ℕ). Some n) turned
