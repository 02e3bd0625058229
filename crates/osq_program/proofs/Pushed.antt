-- Texts that are added one behind another.
use Rattle.std.proofs.Common.{◌≡◌, ℕ, List, ◌++◌, ap, ◌∙◌, append_assoc}

pub pushed_two : (old a b first new : List ℕ) → first ≡ old ++ a → new ≡ first ++ b → new ≡ old ++ (a ++ b)
pushed_two old a b first new one two = two ∙ ap (λ (text : List ℕ). text ++ b) one ∙ append_assoc old a b
