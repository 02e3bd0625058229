-- Texts that are added one behind another.
use Rattle.std.specs.Prelude.{◌≡◌, ℕ, ◌==◌, if◌then◌else◌, Bool, true, false, List, [], ◌∷◌, ◌++◌, Option, Some, None}

-- a space before each text but the first
abbrev pub separator : ℕ → List ℕ
separator place = if place == 0 then [] else 32 ∷ []

-- the argument stands behind the text; where it is missing the text is as before
abbrev pub AddsArgument : ℕ → Option (List ℕ) → List ℕ → List ℕ → Bool → Type 0
AddsArgument place None before after there = (there ≡ false) × (after ≡ before)
AddsArgument place (Some argument) before after there = (there ≡ true) × (after ≡ (before ++ separator place) ++ argument)
