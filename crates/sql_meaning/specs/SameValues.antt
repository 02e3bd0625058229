-- For the keys of maps, and no part of the meaning: the test of equality that `==` makes of values is that of their order, and so an equivalence.
use Rattle.std.proofs.Common.{◌≡◌, ℕ, refl, sym, ap, ◌∙◌, Bool, true, false, List, bytes_eq, is_eq}
use Rattle.std.specs.Cmp.{Equal-is, IsEquivalence, both_ways}
use Rattle.std.proofs.lemmas.Slice.Eq.{bytes_eq-Decides}
use Rattle.osq_value.specs.declared.value.Value.{Value}
use Rattle.osq_value.specs.declared.value.Value.TheVariants.{Null, Int, Text}
use Rattle.osq_value.specs.contracts.value.ValuePartialEq.TheImpl as equality
use Rattle.osq_value.specs.Order.{order_of}
use Rattle.osq_value.proofs.OrderLaws.{equal_of-order, order_of-equal, order_of-itself}

text_of : (r s : List ℕ) → Text r ≡ Text s → r ≡ s
text_of r s h = cc

same_text : (r s : List ℕ) → bytes_eq r s ≡ is_eq (order_of (Text r) (Text s))
same_text r s =
    let d = bytes_eq-Decides r s in
    let e = Equal-is (order_of (Text r) (Text s)) in
    both_ways (bytes_eq r s) (is_eq (order_of (Text r) (Text s))) (λ h. e.1 (order_of-equal (Text r) (Text s) (ap Text (d.0 h)))) (λ h. d.1 (text_of r s (equal_of-order (Text r) (Text s) (e.0 h))))

pub same_value : (a b : Value) → equality.eq-value.it a b ≡ is_eq (order_of a b)
same_value Null Null = refl
same_value Null (Int n) = refl
same_value Null (Text s) = refl
same_value (Int m) Null = refl
same_value (Int m) (Int n) = refl
same_value (Int m) (Text s) = refl
same_value (Text r) Null = refl
same_value (Text r) (Int n) = refl
same_value (Text r) (Text s) = same_text r s

exact : (a b : Value) → equality.eq-value.it a b ≡ true → a ≡ b
exact a b h = let e = Equal-is (order_of a b) in equal_of-order a b (e.0 (sym (same_value a b) ∙ h))

itself : (a : Value) → equality.eq-value.it a a ≡ true
itself a = same_value a a ∙ ap is_eq (order_of-itself a)

turned : (a b : Value) → equality.eq-value.it a b ≡ equality.eq-value.it b a
turned a b = by (equality.eq-value.it a b) (equality.eq-value.it b a) refl refl
  where
    by : (s t : Bool) → equality.eq-value.it a b ≡ s → equality.eq-value.it b a ≡ t → s ≡ t
    by true true p q = refl
    by false false p q = refl
    by true false p q = sym (itself a) ∙ ap (λ (v : Value). equality.eq-value.it v a) (exact a b p) ∙ q
    by false true p q = sym p ∙ ap (λ (v : Value). equality.eq-value.it v b) (sym (exact b a q)) ∙ itself b

pub values_equiv : IsEquivalence equality.eq-value.it
values_equiv = record { refl = itself; symm = turned; congr = λ a b c h. ap (λ (v : Value). equality.eq-value.it v c) (exact a b h) }
