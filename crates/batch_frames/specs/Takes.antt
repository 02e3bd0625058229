-- What a reader gives of bytes that begin with the text of a value.
use Rattle.std.specs.Prelude.{◌≡◌, ℕ, List, ◌++◌}
use Rattle.batch_frames.specs.Ends.{BeginsWithEnd}

-- the value and the rest, where the bytes are the text of a value and, from a comma or a bracket on, a rest
abbrev pub Takes : {T : Type 0} → (T → List ℕ) → (T → Type 0) → List ℕ → T → List ℕ → Type 0
Takes {T} text is_held bytes taken rest =
    (value : T) (behind : List ℕ) → is_held value → BeginsWithEnd behind → bytes ≡ text value ++ behind → (taken ≡ value) × (rest ≡ behind)
