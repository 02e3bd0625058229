-- What the digits at the front stand for, where no more than a bound is kept of it.
use Rattle.std.proofs.Common.{◌≡◌, ℕ, ◌+◌, ◌-◌, ◌*◌, List, [], ◌∷◌, min, arith}
use Rattle.osq_value.specs.Spelling.{value_from}

-- two numbers that a bound does not tell apart
capped_step : (m a b d : ℕ) → min a m ≡ min b m → min (10 * a + d) m ≡ min (10 * b + d) m
capped_step m a b d h = omega arith

capped_alike : (m : ℕ) (digits : List ℕ) (a b : ℕ) → min a m ≡ min b m → min (value_from a digits) m ≡ min (value_from b digits) m
capped_alike m [] a b h = h
capped_alike m (byte ∷ rest) a b h = capped_alike m rest (10 * a + (byte - 48)) (10 * b + (byte - 48)) (capped_step m a b (byte - 48) h)

-- a bound on the number in front changes nothing below the bound
pub capped_more : (m : ℕ) (digits : List ℕ) (a : ℕ) → min (value_from (min a m) digits) m ≡ min (value_from a digits) m
capped_more m digits a = capped_alike m digits (min a m) a (omega arith)
