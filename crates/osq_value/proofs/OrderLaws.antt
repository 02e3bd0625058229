-- The order of values is total, and equal exactly at equal values.
use Rattle.std.proofs.Common.{◌≡◌, refl, ap, ◌∙◌, sym}
use Rattle.std.specs.Ordering.{ordering_reverse}
use Rattle.std.specs.Cmp.{IsTotalOrder, int_cmp_total, tied_itself}
use Rattle.std.specs.Cmp.Lexicographic.{nat_list_cmp_total}
use Rattle.std.specs.FinMap.{int_cmp-IsAntisymmetric, nat_cmp-IsAntisymmetric, slice_cmp-IsAntisymmetric}
use Rattle.std.specs.declared.cmp.Ordering.TheVariants.{Less, Equal}
use Rattle.osq_value.specs.declared.value.Value.{Value}
use Rattle.osq_value.specs.declared.value.Value.TheVariants.{Null, Int, Text}
use Rattle.osq_value.specs.Order.{order_of}

order_of-turned : (a b : Value) → order_of a b ≡ ordering_reverse (order_of b a)
order_of-turned Null Null = refl
order_of-turned Null (Int n) = refl
order_of-turned Null (Text s) = refl
order_of-turned (Int m) Null = refl
order_of-turned (Int m) (Int n) = let o = int_cmp_total in o.antisymm m n
order_of-turned (Int m) (Text s) = refl
order_of-turned (Text r) Null = refl
order_of-turned (Text r) (Int n) = refl
order_of-turned (Text r) (Text s) = let o = nat_list_cmp_total in o.antisymm r s

order_of-chain : (a b c : Value) → order_of a b ≡ Less → order_of b c ≡ Less → order_of a c ≡ Less
order_of-chain Null Null c p q = cc
order_of-chain Null (Int n) Null p q = cc
order_of-chain Null (Int n) (Int k) p q = refl
order_of-chain Null (Int n) (Text s) p q = refl
order_of-chain Null (Text s) Null p q = cc
order_of-chain Null (Text s) (Int k) p q = refl
order_of-chain Null (Text s) (Text t) p q = refl
order_of-chain (Int m) Null c p q = cc
order_of-chain (Int m) (Int n) Null p q = cc
order_of-chain (Int m) (Int n) (Int k) p q = let o = int_cmp_total in o.trans m n k p q
order_of-chain (Int m) (Int n) (Text s) p q = refl
order_of-chain (Int m) (Text s) Null p q = cc
order_of-chain (Int m) (Text s) (Int k) p q = cc
order_of-chain (Int m) (Text s) (Text t) p q = refl
order_of-chain (Text r) Null c p q = cc
order_of-chain (Text r) (Int n) c p q = cc
order_of-chain (Text r) (Text s) Null p q = cc
order_of-chain (Text r) (Text s) (Int k) p q = cc
order_of-chain (Text r) (Text s) (Text t) p q = let o = nat_list_cmp_total in o.trans r s t p q

-- values that the order does not tell apart are equal
pub equal_of-order : (a b : Value) → order_of a b ≡ Equal → a ≡ b
equal_of-order Null Null h = refl
equal_of-order Null (Int n) h = cc
equal_of-order Null (Text s) h = cc
equal_of-order (Int m) Null h = cc
equal_of-order (Int m) (Int n) h = ap Int (int_cmp-IsAntisymmetric m n h)
equal_of-order (Int m) (Text s) h = cc
equal_of-order (Text r) Null h = cc
equal_of-order (Text r) (Int n) h = cc
equal_of-order (Text r) (Text s) h = ap Text (slice_cmp-IsAntisymmetric nat_cmp-IsAntisymmetric r s h)

pub order_of-itself : (a : Value) → order_of a a ≡ Equal
order_of-itself Null = refl
order_of-itself (Int n) = tied_itself int_cmp_total n
order_of-itself (Text s) = tied_itself nat_list_cmp_total s

pub order_of-equal : (a b : Value) → a ≡ b → order_of a b ≡ Equal
order_of-equal a b same = sym (ap (order_of a) same) ∙ order_of-itself a

pub order_of-total : IsTotalOrder order_of
order_of-total = record {
  antisymm = order_of-turned;
  trans = order_of-chain;
  congr = λ a b c h. ap (λ (v : Value). order_of v c) (equal_of-order a b h);
}
