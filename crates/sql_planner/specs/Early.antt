-- Queries that the first rows of FROM may answer.
use Rattle.std.specs.Prelude.{◌≡◌, ℕ, pos, false, [], Some}
use Rattle.sql_query.specs.Resolved.{QueryTree}

-- neither groups nor ORDER BY look at all rows, and LIMIT keeps so many
abbrev pub IsEarly : QueryTree → ℕ → Type 0
IsEarly query wanted = (query.is_grouped ≡ false) × (query.terms ≡ []) × (query.limit ≡ Some (pos wanted))
