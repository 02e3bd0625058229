-- Conditions joined by and, and by or, and those that don't hold.
use Rattle.std.proofs.Common.{◌≡◌, ◌&&◌, ◌||◌, not, Bool, true, false, refl}

pub first : (a b : Bool) → a && b ≡ true → a ≡ true
first true b holds = refl
first false b holds = holds

pub second : (a b : Bool) → a && b ≡ true → b ≡ true
second true b holds = holds
second false b holds = absurd cc

pub neither_first : (a b : Bool) → a || b ≡ false → a ≡ false
neither_first true b fails = fails
neither_first false b fails = refl

pub neither_second : (a b : Bool) → a || b ≡ false → b ≡ false
neither_second true b fails = absurd cc
neither_second false b fails = fails

pub not_true : (b : Bool) → not b ≡ true → b ≡ false
not_true true fails = absurd cc
not_true false fails = refl
