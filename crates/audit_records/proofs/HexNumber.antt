-- The number that hexadecimal digits spell.
use Rattle.std.proofs.Common.{◌≡◌, ℕ, ◌+◌, ◌*◌, ◌^◌, ◌<◌, ◌≤◌, Some, arith}
use Rattle.std.proofs.Math.Nat.{pow-le-pow_right}
use Rattle.hex.specs.Hex.{hex_digit_value}

-- what fewer than sixteen digits spell leaves room for one more
pub room : (count place n : ℕ) → place < count → count ≤ 16 → n < 16 ^ place → 16 * n + 15 < 2 ^ 64
room count place n within few small =
    let last : place ≤ 15 = omega arith in
    let most : 16 ^ place ≤ 16 ^ 15 = pow-le-pow_right (omega arith) last in
    omega arith

-- what a digit stands for
pub small : (byte digit : ℕ) → hex_digit_value byte ≡ Some digit → digit < 16
small byte digit h = grind (arith)
