-- The best, the numbers and the sum of values, one value after another.
use Rattle.std.proofs.Common.{◌≡◌, ℕ, ◌<◌, ◌+◌, refl, sym, ap, ◌∙◌, Bool, true, false, cond, not, ◌&&◌, List, [], ◌∷◌, ◌++◌, length, filter_map, append-nil, take, get_or, option_to_list, unwrap_or, is_none, is_some, Option, Some, None, ℤ, pos, ◌+ℤ◌, arith, map}
use Rattle.std.proofs.lemmas.Int.{ints}
use Rattle.std.specs.List.{reduce, fold}
use Rattle.std.specs.Ordering.{is_eq}
use Rattle.std.proofs.lemmas.List.{take_more}
use Rattle.std.proofs.lemmas.List.Elements.{filter_map-append}
use Rattle.osq_value.specs.declared.value.Value.{Value}
use Rattle.osq_value.specs.declared.value.Value.TheVariants.{Null, Int, Text}
use Rattle.osq_value.specs.contracts.value.ValuePartialEq.TheImpl as equality
use Rattle.osq_value.specs.Order.{order_of}
use Rattle.indexmap.specs.IndexSet.{insert_key}
use Rattle.sql_meaning.specs.Firsts.{same_values}
use Rattle.sql_scalar.specs.Arithmetic.{whole, within}
use Rattle.sql_meaning.specs.Folds.{different, sum_over, total}
use Rattle.sql_meaning.specs.Looks.{chosen, nearer_of}
use Rattle.sql_meaning.specs.SameValues.{same_value}
use Rattle.sql_meaning.proofs.HashedLaws.{insert_key-made}

abbrev alone : Value → List Value
alone value = value ∷ []

and-true : (b : Bool) → b ≡ (b && true)
and-true true = refl
and-true false = refl

same-alone : (left right : Value) → equality.eq-value.it left right ≡ same_values (alone left) (alone right)
same-alone left right = same_value left right ∙ and-true (is_eq (order_of left right))

abbrev itself : Value → Value
itself value = value

as-is : (values : List Value) → map itself values ≡ values
as-is [] = refl
as-is (v ∷ vs) = ap (λ (rest : List Value). v ∷ rest) (as-is vs)

-- a further value of those that are held once each
pub different-more : (values : List Value) (value : Value) → insert_key equality.eq-value.it (different values) value ≡ different (values ++ value ∷ [])
different-more values value =
    ap (λ (kept : List Value). insert_key equality.eq-value.it kept value) (sym (as-is (different values)))
    ∙ insert_key-made equality.eq-value.it alone itself same-alone values value
    ∙ as-is (different (values ++ value ∷ []))

module _ (f : Value → Value → Value) where
  fold-push : (first : Value) (values : List Value) (value : Value) → fold f first (values ++ value ∷ []) ≡ f (fold f first values) value
  fold-push first [] value = refl
  fold-push first (v ∷ vs) value = fold-push (f first v) vs value

-- the best of one value more
pub reduce-push : (is_greatest : Bool) (values : List Value) (value : Value) → reduce (chosen is_greatest) (values ++ value ∷ []) ≡ Some (nearer_of is_greatest (reduce (chosen is_greatest) values) value)
reduce-push is_greatest [] value = refl
reduce-push is_greatest (v ∷ vs) value = ap Some (fold-push (chosen is_greatest) v vs value)

one_number : (value : Value) → filter_map whole (value ∷ []) ≡ option_to_list (whole value)
one_number Null = refl
one_number (Int n) = refl
one_number (Text t) = refl

-- the numbers of one value more
pub numbers-more : (values : List Value) (at : ℕ) (value : Value) → at < length values → value ≡ get_or values at value
    → filter_map whole (take (at + 1) values) ≡ filter_map whole (take at values) ++ option_to_list (whole value)
numbers-more values at value h g =
    ap (filter_map whole) (take_more values at value h ∙ ap (λ (v : Value). take at values ++ v ∷ []) (sym g))
    ∙ filter_map-append whole (take at values) (value ∷ [])
    ∙ ap (λ (ns : List ℤ). filter_map whole (take at values) ++ ns) (one_number value)

abbrev pub is_nil : List ℤ → Bool
is_nil [] = true
is_nil (n ∷ ns) = false

total-push : (ns : List ℤ) (n : ℤ) → total (ns ++ n ∷ []) ≡ total ns +ℤ n
total-push [] n = omega (arith, ints)
total-push (m ∷ ns) n = let e : total (ns ++ n ∷ []) ≡ total ns +ℤ n = total-push ns n in omega (arith, ints)

pub sum_over-is : (ns : List ℤ) (is_empty : Bool) (sum : ℤ) → is_empty ≡ is_nil ns → sum ≡ total ns → cond is_empty Null (within sum) ≡ sum_over ns
sum_over-is [] true sum p q = refl
sum_over-is [] false sum p q = cc
sum_over-is (n ∷ ns) true sum p q = cc
sum_over-is (n ∷ ns) false sum p q = ap within q

-- a further number, where there is one
pub total-more : (ns : List ℤ) (number : Option ℤ) → total (ns ++ option_to_list number) ≡ total ns +ℤ unwrap_or number (pos 0)
total-more ns None = ap total (append-nil ns) ∙ (let e : total ns ≡ total ns +ℤ pos 0 = omega (arith, ints) in e)
total-more ns (Some n) = total-push ns n

pub is_nil-more : (ns : List ℤ) (number : Option ℤ) → is_nil (ns ++ option_to_list number) ≡ (is_nil ns && is_none number)
is_nil-more [] None = refl
is_nil-more [] (Some n) = refl
is_nil-more (m ∷ ns) None = refl
is_nil-more (m ∷ ns) (Some n) = refl

pub none-is : (number : Option ℤ) (is_absent : Bool) → is_some number ≡ not is_absent → is_absent ≡ is_none number
none-is None true h = refl
none-is None false h = cc
none-is (Some n) true h = cc
none-is (Some n) false h = refl
