-- For proofs of the code's steps, and no part of the meaning: how many rows LIMIT and OFFSET look at.
use Rattle.std.specs.Prelude.{◌≡◌, ◌+◌, ℕ, ℤ, pos, Option, Some}
use Rattle.sql_meaning.specs.Cut.{passed_over}

-- LIMIT is there, and it keeps rows of the first so many alone
abbrev pub IsCut : Option ℤ → Option ℤ → ℕ → Type 0
IsCut limit skip count = (kept : ℕ) × (limit ≡ Some (pos kept)) × (count ≡ passed_over skip + kept)
