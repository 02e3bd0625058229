-- Tests of rows ask what the condition asks.
use Rattle.std.proofs.Common.{◌≡◌, ℕ, ◌+◌, ◌<◌, refl, sym, ap, ap₂, ◌∙◌, Bool, true, false, cond, not, ◌&&◌, ◌||◌, true≢false, List, [], ◌∷◌, ◌++◌, get_or, length, map, take, Option, Some, None, is_eq}
use Rattle.std.specs.Ordering.{is_ne, is_lt, is_le, is_gt, is_ge}
use Rattle.std.specs.declared.cmp.Ordering.{Ordering}
use Rattle.std.specs.List.{list_all, list_any}
use Rattle.std.specs.Cmp.{Equal-is}
use Rattle.indexmap.specs.IndexSet.{insert_key}
use Rattle.osq_value.specs.declared.value.Value.{Value}
use Rattle.osq_value.specs.declared.value.Value.TheVariants.{Null, Int, Text}
use Rattle.osq_value.specs.declared.catalogue.Affinity.{Affinity}
use Rattle.osq_value.specs.contracts.value.ValuePartialEq.TheImpl as equality
use Rattle.osq_value.specs.Order.{order_of}
use Rattle.osq_value.proofs.OrderLaws.{equal_of-order}
use Rattle.sql_tree.specs.declared.tree.Operator.{Operator}
use Rattle.sql_tree.specs.declared.tree.Operator.TheVariants as operator
use Rattle.sql_query.specs.declared.tree.Expr.{Expr}
use Rattle.sql_query.specs.declared.tree.ExprStep.{ExprStep}
use Rattle.sql_query.specs.Exprs.{ExprTree, Exprs}
use Rattle.sql_query.specs.Exprs as expr
use Rattle.sql_query.specs.View.{expr_of, exprs_of, step_of, steps_of}
use Rattle.sql_scalar.specs.Comparison.{between_of, compared, equal_of, greater_equal_of, in_of, less_equal_of, unless_null}
use Rattle.sql_scalar.specs.Operators.{apply_of}
use Rattle.sql_scalar.specs.Truth.{and_of, both, either, from_truth, or_of, truth_of}
use Rattle.sql_meaning.specs.Expressions.{Environment, affinity_after, affinity_of, alone, holds, is_true, is_true_truth, negated, value_after, value_by, value_of, values_of}
use Rattle.sql_meaning.specs.SameValues.{same_value}
use Rattle.sql_meaning.proofs.Parts.{exprs_more, in-more, steps_more}
use Rattle.virtual_tables.specs.Tests.{turned}
use Rattle.virtual_tables.proofs.Turning.{same-nulls, same-order}
use Rattle.sql_planner.specs.declared.item_set.ItemSet.{ItemSet}
use Rattle.sql_planner.specs.declared.row_tests.RowTest.{RowTest}
use Rattle.sql_planner.specs.declared.row_tests.ValueTest.{ValueTest}
use Rattle.sql_planner.specs.declared.row_tests.ValueTest.TheVariants as test
use Rattle.sql_planner.specs.RowTests.{found_among, found_if, found_in, is_empty, is_null, not_found, passes, passes_one, passes_some, turned_by}

pub back : (truth : Option Bool) → truth_of (from_truth truth) ≡ truth
back None = refl
back (Some true) = refl
back (Some false) = refl

-- a comparison by its outcome
pub is-so : (op : Operator) (left right : Value) (outcome answer : Bool) → apply_of op None None left right ≡ from_truth (unless_null left right outcome) → answer ≡ is_true (from_truth (unless_null left right outcome)) → answer ≡ is_true (apply_of op None None left right)
is-so op left right outcome answer told is = is ∙ ap is_true (sym told)

-- between by what is known of both sides
pub between-is : (is_negated : Bool) (value low high : Value) → is_true (negated is_negated (from_truth (both (unless_null value low (is_ge (order_of value low))) (unless_null value high (is_le (order_of value high))))))
    ≡ is_true (negated is_negated (between_of None None None value low high))
between-is is_negated value low high =
    let above = unless_null value low (is_ge (order_of value low)) in
    let below = unless_null value high (is_le (order_of value high)) in
    ap₂ (λ (a b : Option Bool). is_true (negated is_negated (from_truth (both a b)))) (sym (back above)) (sym (back below))

-- an operator sees of a constant at its right what is left of it once the affinity turned it
pub compared-turned : (test : Ordering → Bool) (first : Option Affinity) (left right : Value) → from_truth (unless_null left (turned first right) (test (order_of left (turned first right)))) ≡ from_truth (unless_null left right (test (compared first None left right)))
compared-turned test first left right = sym (
    ap (λ (o : Ordering). from_truth (unless_null left right (test o))) (same-order first left right)
    ∙ ap from_truth (same-nulls first left right (test (order_of left (turned first right)))))

pub applied-turned : (op : Operator) (first : Option Affinity) (left right : Value) → apply_of op None None left (turned_by op first right) ≡ apply_of op first None left right
applied-turned operator.Or first left right = refl
applied-turned operator.And first left right = refl
applied-turned operator.Equal first left right = compared-turned is_eq first left right
applied-turned operator.NotEqual first left right = compared-turned is_ne first left right
applied-turned operator.Is first left right = ap (λ (o : Ordering). from_truth (Some (is_eq o))) (sym (same-order first left right))
applied-turned operator.IsNot first left right = ap (λ (o : Ordering). from_truth (Some (is_ne o))) (sym (same-order first left right))
applied-turned operator.Less first left right = compared-turned is_lt first left right
applied-turned operator.LessEqual first left right = compared-turned is_le first left right
applied-turned operator.Greater first left right = compared-turned is_gt first left right
applied-turned operator.GreaterEqual first left right = compared-turned is_ge first left right
applied-turned operator.Like first left right = refl
applied-turned operator.NotLike first left right = refl
applied-turned operator.Add first left right = refl
applied-turned operator.Subtract first left right = refl
applied-turned operator.Multiply first left right = refl
applied-turned operator.Divide first left right = refl
applied-turned operator.Remainder first left right = refl
applied-turned operator.Concat first left right = refl

-- the test by an operator
pub applied-is : (op : Operator) (first : Option Affinity) (right : ExprTree) (made constant : Value) → made ≡ turned_by op first constant → affinity_of right ≡ None → ((row : List Value) → value_of (alone row) right ≡ constant)
    → (row : List Value) (value : Value) → passes (test.Applied op made) value ≡ is_true (value_by (alone row) first value (expr.binary op right))
applied-is op first right made constant is bare worth row value =
    ap (λ (c : Value). is_true (apply_of op None None value c)) is
    ∙ ap is_true (applied-turned op first value constant)
    ∙ ap₂ (λ (a : Option Affinity) (c : Value). is_true (apply_of op first a value c)) (sym bare) (sym (worth row))

-- the test by BETWEEN
pub bounded-is : (is_negated : Bool) (first : Option Affinity) (low high : ExprTree) (least most from to : Value) → from ≡ turned first least → to ≡ turned first most → affinity_of low ≡ None → affinity_of high ≡ None
    → ((row : List Value) → value_of (alone row) low ≡ least) → ((row : List Value) → value_of (alone row) high ≡ most)
    → (row : List Value) (value : Value) → passes (test.Between is_negated from to) value ≡ is_true (value_by (alone row) first value (expr.between is_negated low high))
bounded-is is_negated first low high least most from to from-is to-is bare-low bare-high low-is high-is row value =
    ap₂ (λ (a b : Value). is_true (negated is_negated (and_of a b)))
    (ap (greater_equal_of None None value) from-is ∙ applied-turned operator.GreaterEqual first value least ∙ ap₂ (λ (a : Option Affinity) (c : Value). greater_equal_of first a value c) (sym bare-low) (sym (low-is row)))
    (ap (less_equal_of None None value) to-is ∙ applied-turned operator.LessEqual first value most ∙ ap₂ (λ (a : Option Affinity) (c : Value). less_equal_of first a value c) (sym bare-high) (sym (high-is row)))

in-truth : (first : Option Affinity) (value : Value) (items : List Value) → from_truth (truth_of (in_of first value items)) ≡ in_of first value items
in-truth first value [] = refl
in-truth first value (item ∷ items) = ap from_truth (back (either (truth_of (equal_of first None value item)) (truth_of (in_of first value items))))

-- the test by IN
pub chosen-is : (is_negated : Bool) (first : Option Affinity) (items : List Expr) (set : ItemSet) → ((row : List Value) (value : Value) → found_in set value ≡ truth_of (in_of first value (values_of (alone row) (exprs_of items))))
    → (row : List Value) (value : Value) → passes (test.Among is_negated set) value ≡ is_true (value_by (alone row) first value (expr.among is_negated (exprs_of items)))
chosen-is is_negated first items set is row value =
    ap (λ (v : Value). is_true (negated is_negated v)) (ap from_truth (is row value) ∙ in-truth first value (values_of (alone row) (exprs_of items)))

-- the items of IN

abbrev pub equal : Value → Value → Bool
equal left right = equality.eq-value.it left right

exact : (a b : Value) → equal a b ≡ true → a ≡ b
exact a b h = let e = Equal-is (order_of a b) in equal_of-order a b (e.0 (sym (same_value a b) ∙ h))

any-push : {X : Type 0} (test : X → Bool) (xs : List X) (x : X) → list_any test (xs ++ x ∷ []) ≡ (list_any test xs || test x)
any-push test [] x = or-none (test x)
  where
    or-none : (b : Bool) → (b || false) ≡ b
    or-none true = refl
    or-none false = refl
any-push test (y ∷ ys) x = by (test y) (any-push test ys x)
  where
    by : (b : Bool) → list_any test (ys ++ x ∷ []) ≡ (list_any test ys || test x) → (b || list_any test (ys ++ x ∷ [])) ≡ ((b || list_any test ys) || test x)
    by true further = refl
    by false further = further

-- a value stands among the items after one more just where it did before or equals that one
any-inserted : (value item : Value) (items : List Value) → list_any (equal value) (insert_key equal items item) ≡ (list_any (equal value) items || equal value item)
any-inserted value item items = by (list_any (equal item) items) refl
  where
    or-false : (a b : Bool) → b ≡ false → a ≡ (a || b)
    or-false true b h = refl
    or-false false b h = sym h

    there : list_any (equal item) items ≡ true → (b : Bool) → equal value item ≡ b → list_any (equal value) items ≡ (list_any (equal value) items || equal value item)
    there is true at =
        let all : list_any (equal value) items ≡ true = ap (λ (v : Value). list_any (equal v) items) (exact value item at) ∙ is in
        all ∙ ap (λ (b : Bool). b || equal value item) (sym all)
    there is false at = or-false (list_any (equal value) items) (equal value item) at

    by : (b : Bool) → list_any (equal item) items ≡ b → list_any (equal value) (insert_key equal items item) ≡ (list_any (equal value) items || equal value item)
    by true is = ap (λ (b : Bool). list_any (equal value) (cond b items (items ++ item ∷ []))) is ∙ there is (equal value item) refl
    by false is = ap (λ (b : Bool). list_any (equal value) (cond b items (items ++ item ∷ []))) is ∙ any-push (equal value) items item

none-empty : (items : List Value) (item : Value) → is_empty (items ++ item ∷ []) ≡ false
none-empty [] item = refl
none-empty (first ∷ rest) item = refl

inserted-not-empty : (items : List Value) (item : Value) → is_empty (insert_key equal items item) ≡ false
inserted-not-empty [] item = refl
inserted-not-empty (first ∷ rest) item = by (list_any (equal item) (first ∷ rest))
  where
    by : (b : Bool) → is_empty (cond b (first ∷ rest) ((first ∷ rest) ++ item ∷ [])) ≡ false
    by true = refl
    by false = refl

either-unknown : (b : Bool) → None ≡ either (not_found b) None
either-unknown true = refl
either-unknown false = refl

found-unknown : (a b : Bool) → found_if a true ≡ either (found_if a b) None
found-unknown true b = refl
found-unknown false b = either-unknown b

found-either : (a e b : Bool) → found_if (a || e) b ≡ either (found_if a b) (truth_of (from_truth (Some e)))
found-either true true b = refl
found-either true false b = refl
found-either false true true = refl
found-either false true false = refl
found-either false false true = refl
found-either false false false = refl

or-true : (b : Bool) → not_found (b || true) ≡ None
or-true true = refl
or-true false = refl

known-inserted : (items : List Value) (has_null : Bool) (item value : Value) → found_if (list_any (equal value) (insert_key equal items item)) has_null ≡ either (found_if (list_any (equal value) items) has_null) (truth_of (from_truth (Some (is_eq (order_of value item)))))
known-inserted items has_null item value =
    ap (λ (b : Bool). found_if b has_null) (any-inserted value item items ∙ ap (λ (e : Bool). list_any (equal value) items || e) (same_value value item))
    ∙ found-either (list_any (equal value) items) (is_eq (order_of value item)) has_null

null-inserted : (items : List Value) (has_null : Bool) (item : Value) → found_among (insert_key equal items item) has_null Null ≡ either (found_among items has_null Null) None
null-inserted items has_null item =
    ap (λ (b : Bool). not_found (has_null || not b)) (inserted-not-empty items item) ∙ or-true has_null ∙ either-unknown (has_null || not (is_empty items))

among-inserted : (items : List Value) (has_null : Bool) (item : Value) → is_null item ≡ false → (value : Value) → found_among (insert_key equal items item) has_null value ≡ either (found_among items has_null value) (truth_of (equal_of None None value item))
among-inserted items has_null Null h value = absurd (true≢false h)
among-inserted items has_null (Int n) h Null = null-inserted items has_null (Int n)
among-inserted items has_null (Int n) h (Int m) = known-inserted items has_null (Int n) (Int m)
among-inserted items has_null (Int n) h (Text r) = known-inserted items has_null (Int n) (Text r)
among-inserted items has_null (Text s) h Null = null-inserted items has_null (Text s)
among-inserted items has_null (Text s) h (Int m) = known-inserted items has_null (Text s) (Int m)
among-inserted items has_null (Text s) h (Text r) = known-inserted items has_null (Text s) (Text r)

among-null : (items : List Value) (has_null : Bool) (value : Value) → found_among items true value ≡ either (found_among items has_null value) (truth_of (equal_of None None value Null))
among-null items has_null Null = either-unknown (has_null || not (is_empty items))
among-null items has_null (Int n) = found-unknown (list_any (equal (Int n)) items) has_null
among-null items has_null (Text s) = found-unknown (list_any (equal (Text s)) items) has_null

-- an item more that isn't Null
pub item-added : (old new : ItemSet) (item : Value) → is_null item ≡ false → new.values.keys ≡ insert_key equal old.values.keys item → new.has_null ≡ old.has_null
    → (value : Value) → found_in new value ≡ either (found_in old value) (truth_of (equal_of None None value item))
item-added old new item known keys same value =
    ap₂ (λ (items : List Value) (has_null : Bool). found_among items has_null value) keys same ∙ among-inserted old.values.keys old.has_null item known value

null-is : (item : Value) → is_null item ≡ true → item ≡ Null
null-is Null h = refl
null-is (Int n) h = absurd (true≢false (sym h))
null-is (Text s) h = absurd (true≢false (sym h))

-- a further item that is Null
pub null-added : (old new : ItemSet) (item : Value) → is_null item ≡ true → new.values.keys ≡ old.values.keys → new.has_null ≡ true
    → (value : Value) → found_in new value ≡ either (found_in old value) (truth_of (equal_of None None value item))
null-added old new item null keys has value =
    ap₂ (λ (items : List Value) (has_null : Bool). found_among items has_null value) keys has
    ∙ among-null old.values.keys old.has_null value
    ∙ ap (λ (v : Value). either (found_in old value) (truth_of (equal_of None None value v))) (sym (null-is item null))

-- no items
pub none-found : (value : Value) → found_among [] false value ≡ Some false
none-found Null = refl
none-found (Int n) = refl
none-found (Text s) = refl

-- one item more of the expressions
pub item-then : (first : Option Affinity) (exprs : List Expr) (i : ℕ) (item : Expr) (old new : ItemSet) (constant made : Value) → i < length exprs → item ≡ get_or exprs i item
    → ((row : List Value) → value_of (alone row) (expr_of item) ≡ constant) → made ≡ turned first constant → ((value : Value) → found_in new value ≡ either (found_in old value) (truth_of (equal_of None None value made)))
    → ((row : List Value) (value : Value) → found_in old value ≡ truth_of (in_of first value (values_of (alone row) (exprs_of (take i exprs)))))
    → (row : List Value) (value : Value) → found_in new value ≡ truth_of (in_of first value (values_of (alone row) (exprs_of (take (i + 1) exprs))))
item-then first exprs i item old new constant made within is worth made-is added was row value =
    let before = values_of (alone row) (exprs_of (take i exprs)) in
    let here = value_of (alone row) (expr_of item) in
    rw (exprs_more exprs i item within is)
    (added value
    ∙ ap₂ (λ (a b : Option Bool). either a b) (was row value)
    (ap truth_of (ap (equal_of None None value) made-is ∙ applied-turned operator.Equal first value constant ∙ ap (equal_of first None value) (sym (worth row))))
    ∙ sym (back (either (truth_of (in_of first value before)) (truth_of (equal_of first None value here))))
    ∙ ap truth_of (sym (in-more first value before here)))

-- the sides of an OR

either-true : (a b : Option Bool) → (is_true_truth a || is_true_truth b) ≡ is_true_truth (either a b)
either-true None None = refl
either-true None (Some true) = refl
either-true None (Some false) = refl
either-true (Some true) None = refl
either-true (Some true) (Some true) = refl
either-true (Some true) (Some false) = refl
either-true (Some false) None = refl
either-true (Some false) (Some true) = refl
either-true (Some false) (Some false) = refl

or-true-of : (a b : Value) → (is_true a || is_true b) ≡ is_true (or_of a b)
or-true-of a b = either-true (truth_of a) (truth_of b) ∙ ap is_true_truth (sym (back (either (truth_of a) (truth_of b))))

-- one side more
pub side-then : (first : Expr) (steps : List ExprStep) (i : ℕ) (step : ExprStep) (side : ExprTree) (old new : List RowTest) (made : RowTest) → i < length steps → step ≡ get_or steps i step
    → step_of step ≡ expr.binary operator.Or side → new ≡ old ++ made ∷ [] → ((row : List Value) → passes_one row made ≡ is_true (value_of (alone row) side))
    → ((row : List Value) → passes_some row old ≡ is_true (value_of (alone row) (expr.chain (expr_of first) (steps_of (take i steps)))))
    → (row : List Value) → passes_some row new ≡ is_true (value_of (alone row) (expr.chain (expr_of first) (steps_of (take (i + 1) steps))))
side-then first steps i step side old new made within is or pushed one was row =
    let before = value_of (alone row) (expr.chain (expr_of first) (steps_of (take i steps))) in
    rw (steps_more steps i step within is)
    (ap (passes_some row) pushed ∙ any-push (passes_one row) old made
    ∙ ap₂ (λ (a b : Bool). a || b) (was row) (one row)
    ∙ or-true-of before (value_of (alone row) side)
    ∙ ap (λ s. is_true (value_by (alone row) (affinity_after (affinity_of (expr_of first)) (steps_of (take i steps))) before s)) (sym or))

-- the parts of a condition

all-push : {X : Type 0} (test : X → Bool) (xs : List X) (x : X) → list_all test (xs ++ x ∷ []) ≡ (list_all test xs && test x)
all-push test [] x = and-none (test x)
  where
    and-none : (b : Bool) → (b && true) ≡ b
    and-none true = refl
    and-none false = refl
all-push test (y ∷ ys) x = by (test y) (all-push test ys x)
  where
    by : (b : Bool) → list_all test (ys ++ x ∷ []) ≡ (list_all test ys && test x) → (b && list_all test (ys ++ x ∷ [])) ≡ ((b && list_all test ys) && test x)
    by true further = further
    by false further = refl

holds-push : (env : Environment) (parts : List ExprTree) (part : ExprTree) → holds env (parts ++ part ∷ []) ≡ (holds env parts && is_true (value_of env part))
holds-push env [] part = and-none (is_true (value_of env part))
  where
    and-none : (b : Bool) → (b && true) ≡ b
    and-none true = refl
    and-none false = refl
holds-push env (first ∷ parts) part = by (is_true (value_of env first)) (holds-push env parts part)
  where
    by : (b : Bool) → holds env (parts ++ part ∷ []) ≡ (holds env parts && is_true (value_of env part)) → (b && holds env (parts ++ part ∷ [])) ≡ ((b && holds env parts) && is_true (value_of env part))
    by true further = further
    by false further = refl

-- one part more
pub part-then : (parts : List Expr) (i : ℕ) (part : Expr) (old new : List (List RowTest)) (made : List RowTest) → map expr_of (take (i + 1) parts) ≡ map expr_of (take i parts) ++ expr_of part ∷ [] → new ≡ old ++ made ∷ []
    → ((row : List Value) → passes_some row made ≡ is_true (value_of (alone row) (expr_of part)))
    → ((row : List Value) → list_all (passes_some row) old ≡ holds (alone row) (map expr_of (take i parts)))
    → (row : List Value) → list_all (passes_some row) new ≡ holds (alone row) (map expr_of (take (i + 1) parts))
part-then parts i part old new made more pushed one was row =
    ap (list_all (passes_some row)) pushed ∙ all-push (passes_some row) old made
    ∙ ap₂ (λ (a b : Bool). a && b) (was row) (one row)
    ∙ sym (holds-push (alone row) (map expr_of (take i parts)) (expr_of part))
    ∙ ap (holds (alone row)) (sym more)

-- the test of a first operand behind which stand these steps
pub first-is : (e first : ExprTree) (steps : List ExprStep) (affinity : Option Affinity) (asked : ValueTest) → e ≡ expr.chain first (steps_of steps) → affinity ≡ affinity_of first
    → ((row : List Value) (value : Value) → passes asked value ≡ is_true (value_after (alone row) affinity value (steps_of steps))) → (row : List Value) → passes asked (value_of (alone row) first) ≡ is_true (value_of (alone row) e)
first-is e first steps affinity asked is bare told row =
    told row (value_of (alone row) first)
    ∙ ap (λ (a : Option Affinity). is_true (value_after (alone row) a (value_of (alone row) first) (steps_of steps))) bare
    ∙ ap (λ (t : ExprTree). is_true (value_of (alone row) t)) (sym is)
