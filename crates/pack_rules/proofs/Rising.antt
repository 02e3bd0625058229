-- Queries whose names rise.
use Rattle.std.proofs.Common.{◌≡◌, ℕ, refl, sym, ap, ◌∙◌, Bool, true, false, cond, true≢false, List, [], ◌∷◌, Some, Ordering, Less, Equal, Greater, is_lt, find}
use Rattle.std.proofs.lemmas.Bool.{and_parts}
use Rattle.std.proofs.lemmas.Slice.Eq.{bytes_eq-Decides}
use Rattle.osq_value.specs.declared.value.Value.TheVariants.{Text}
use Rattle.osq_value.specs.Order.{order_of}
use Rattle.osq_value.proofs.OrderLaws.{order_of-total, order_of-itself}
use Rattle.pack_rules.specs.declared.schedule.Scheduled.{Scheduled}
use Rattle.pack_rules.specs.ByName.{is_before, names_rise, has_name}

less_of : (r : Ordering) → is_lt r ≡ true → r ≡ Less
less_of Less h = refl
less_of Equal h = absurd (true≢false (sym h))
less_of Greater h = absurd (true≢false (sym h))

-- a name that is found among later queries stands behind the first
pub behind_first : (q : Scheduled) (qs : List Scheduled) → names_rise (q ∷ qs) ≡ true → (name : List ℕ) (r : Scheduled) → find (has_name name) qs ≡ Some r
    → order_of (Text q.key.name) (Text name) ≡ Less
behind_first q [] rise name r found = absurd (let no : ⊥ = cc in no)
behind_first q (x ∷ xs) rise name r found =
    by (and_parts (is_before q x) (names_rise (x ∷ xs)) rise).0 (behind_first x xs (and_parts (is_before q x) (names_rise (x ∷ xs)) rise).1 name r) (has_name name x) refl where
      by : is_before q x ≡ true → (find (has_name name) xs ≡ Some r → order_of (Text x.key.name) (Text name) ≡ Less)
          → (t : Bool) → has_name name x ≡ t → order_of (Text q.key.name) (Text name) ≡ Less
      by before rest true e = ap (λ (n : List ℕ). order_of (Text q.key.name) (Text n)) ((bytes_eq-Decides name x.key.name).0 e) ∙ less_of _ before
      by before rest false e =
          order_of-total.trans (Text q.key.name) (Text x.key.name) (Text name) (less_of _ before)
          (rest (sym (ap (λ t. cond t (Some x) (find (has_name name) xs)) e) ∙ found))

pub tail_rises : (q : Scheduled) (qs : List Scheduled) → names_rise (q ∷ qs) ≡ true → names_rise qs ≡ true
tail_rises q [] rise = refl
tail_rises q (x ∷ xs) rise = (and_parts (is_before q x) (names_rise (x ∷ xs)) rise).1

pub other_name : (q : Scheduled) (name : List ℕ) → order_of (Text q.key.name) (Text name) ≡ Less → has_name name q ≡ false
other_name q name less = by (has_name name q) refl where
  by : (t : Bool) → has_name name q ≡ t → t ≡ false
  by true e =
      let equal : order_of (Text q.key.name) (Text name) ≡ Equal = ap (λ (n : List ℕ). order_of (Text q.key.name) (Text n)) ((bytes_eq-Decides name q.key.name).0 e) ∙ order_of-itself (Text q.key.name) in
      absurd (let no : ⊥ = cc in no)
  by false e = refl
