-- Names in the order of their bytes.
use Rattle.std.proofs.Common.{◌≡◌, ℕ, List, [], refl, sym, ap, ◌∙◌, true, Ordering, Less, Equal, Greater, nat_cmp, is_lt}
use Rattle.std.specs.Cmp.{IsTotalOrder}
use Rattle.std.specs.Cmp.Lexicographic.{slice_cmp}
use Rattle.std.specs.Ordering.{ordering_reverse}
use Rattle.std.proofs.lemmas.Bool.{false≢true}
use Rattle.std.proofs.lemmas.Cmp.{nat_list_cmp_total}
use Rattle.osq_value.specs.declared.value.Value.{Value}
use Rattle.osq_value.specs.declared.value.Value.TheVariants.{Null, Int, Text}
use Rattle.osq_value.proofs.OrderLaws.{equal_of-order}
use Rattle.change_records.specs.Events.{StandsBefore}

abbrev cmp : List ℕ → List ℕ → Ordering
cmp = slice_cmp nat_cmp

order : IsTotalOrder cmp
order = nat_list_cmp_total

less : (o : Ordering) → is_lt o ≡ true → o ≡ Less
less Less h = refl
less Equal h = absurd (false≢true h)
less Greater h = absurd (false≢true h)

-- of two names one alone stands before the other
pub one_before : (a b : List ℕ) → StandsBefore a b → StandsBefore b a → ⊥
one_before a b ab ba = false≢true (sym (ap is_lt (order.antisymm b a ∙ ap ordering_reverse (less (cmp a b) ab))) ∙ ba)

pub before_before : (a b c : List ℕ) → StandsBefore a b → StandsBefore b c → StandsBefore a c
before_before a b c ab bc = ap is_lt (order.trans a b c (less (cmp a b) ab) (less (cmp b c) bc))

abbrev bytes_of : Value → List ℕ
bytes_of Null = []
bytes_of (Int n) = []
bytes_of (Text text) = text

-- names of which none stands before the other are the same
pub none_before : (a b : List ℕ) → (StandsBefore a b → ⊥) → (StandsBefore b a → ⊥) → a ≡ b
none_before a b ab ba = by (cmp a b) refl where
  by : (o : Ordering) → cmp a b ≡ o → a ≡ b
  by Less e = absurd (ab (ap is_lt e))
  by Equal e = ap bytes_of (equal_of-order (Text a) (Text b) e)
  by Greater e = absurd (ba (ap is_lt (order.antisymm b a ∙ ap ordering_reverse e)))
