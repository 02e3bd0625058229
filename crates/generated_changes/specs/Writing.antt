-- What is written of the lines.
use Rattle.std.specs.Prelude.{◌≡◌, ℕ, List, [], ◌++◌, take, Result, MatchResult}
use Rattle.generated_changes.specs.Generated.{lines_of, number_after}

-- at Ok these first so many lines, after a refusal a front part of them
abbrev pub WritesLines : {T E : Type 0} → List ℕ → List ℕ → ℕ → ℕ → Result T E → Type 0
WritesLines before after from count result =
    MatchResult result (λ _. after ≡ before ++ lines_of from count) (λ _. (n : ℕ) × (after ≡ before ++ take n (lines_of from count)))

-- Of the first so many lines a front part was written, and these bytes behind it were not yet.
abbrev pub IsBehind : List ℕ → List ℕ → ℕ → ℕ → List ℕ → Type 0
IsBehind before after from made held = (done : List ℕ) × (after ≡ before ++ done) × (done ++ held ≡ lines_of from made)

-- the same of one text
abbrev pub IsHeld : List ℕ → List ℕ → List ℕ → List ℕ → Type 0
IsHeld before after text held = (done : List ℕ) × (after ≡ before ++ done) × (done ++ held ≡ text)
