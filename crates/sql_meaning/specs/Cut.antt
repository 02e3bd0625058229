-- The cut by OFFSET, and then by LIMIT.
use Rattle.std.specs.Prelude.{ℕ, ℤ, pos, negsuc, List, take, drop, Option, Some, None}

-- how many are passed over: none without OFFSET, and none by a negative number
abbrev pub passed_over : Option ℤ → ℕ
passed_over None = 0
passed_over (Some (pos n)) = n
passed_over (Some (negsuc n)) = 0

-- what LIMIT keeps: all without it, and all by a negative number
abbrev pub kept_by : {X : Type 0} → Option ℤ → List X → List X
kept_by None xs = xs
kept_by (Some (pos n)) xs = take n xs
kept_by (Some (negsuc n)) xs = xs

-- LIMIT's number and OFFSET's
abbrev pub cut_by : {X : Type 0} → Option ℤ → Option ℤ → List X → List X
cut_by limit skip xs = kept_by limit (drop (passed_over skip) xs)
