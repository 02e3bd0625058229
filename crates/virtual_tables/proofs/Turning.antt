-- A turned literal passes exactly where the comparison with the literal itself is true.
use Rattle.std.proofs.Common.{◌≡◌, ◌&&◌, refl, ap, ◌∙◌, sym, ℕ, Bool, true, false, List, [], ◌∷◌, map, ◌++◌, filter, Option, Some, None, unwrap_or, get_or, ◌<◌, ◌+◌, length, take, cond, slice_get, arith}
use Rattle.std.proofs.lemmas.Option.{slice_get-get_or, unwrap_or-slice_get}
use Rattle.std.proofs.lemmas.List.{take_more}
use Rattle.std.proofs.lemmas.List.Elements.{filter-append}
use Rattle.std.specs.Option.{option_to_list}
use Rattle.std.specs.List.{list_all}
use Rattle.std.specs.Option.{option_map_or}
use Rattle.osq_value.specs.declared.value.Value.{Value}
use Rattle.osq_value.specs.declared.value.Value.TheVariants.{Null, Int, Text}
use Rattle.osq_value.specs.declared.catalogue.Affinity.{Affinity}
use Rattle.osq_value.specs.declared.catalogue.Affinity.TheVariants as affinity
use Rattle.osq_value.specs.Order.{order_of}
use Rattle.osq_value.specs.Spelling.{int_of}
use Rattle.sql_scalar.specs.Comparison.{compared, unless_null}
use Rattle.sql_scalar.specs.Operators.{apply_of}
use Rattle.sql_scalar.specs.Truth.{from_truth, truth_of}
use Rattle.virtual_tables.specs.declared.constraint.Constraint.{Constraint}
use Rattle.virtual_tables.specs.declared.constraint.ConstraintOp.{ConstraintOp}
use Rattle.virtual_tables.specs.declared.constraint.ConstraintOp.TheVariants.{Eq, Lt, Le, Gt, Ge}
use Rattle.virtual_tables.specs.Constraints.{affinity_at, meets, operator_of}
use Rattle.virtual_tables.specs.Tests.{is_passed, passes, tested, turned, wanted}

pub same-order : (first : Option Affinity) (left right : Value) → compared first None left right ≡ order_of left (turned first right)
same-order None left right = refl
same-order (Some affinity.Integer) left right = refl
same-order (Some affinity.Text) left right = refl

spelled-text : (left : Value) (s : List ℕ) (o : Option _) (test : Bool) → unless_null left (Text s) test ≡ unless_null left (option_map_or Int o (Text s)) test
spelled-text Null s None test = refl
spelled-text Null s (Some n) test = refl
spelled-text (Int m) s None test = refl
spelled-text (Int m) s (Some n) test = refl
spelled-text (Text r) s None test = refl
spelled-text (Text r) s (Some n) test = refl

-- turning makes no Null of a literal, nor another value of Null
pub same-nulls : (first : Option Affinity) (left right : Value) (test : Bool) → unless_null left right test ≡ unless_null left (turned first right) test
same-nulls None left right test = refl
same-nulls (Some affinity.Integer) left Null test = refl
same-nulls (Some affinity.Integer) left (Int n) test = refl
same-nulls (Some affinity.Integer) left (Text s) test = spelled-text left s (int_of s) test
same-nulls (Some affinity.Text) left Null test = refl
same-nulls (Some affinity.Text) Null (Int n) test = refl
same-nulls (Some affinity.Text) (Int m) (Int n) test = refl
same-nulls (Some affinity.Text) (Text r) (Int n) test = refl
same-nulls (Some affinity.Text) left (Text s) test = refl

back : (truth : Option Bool) → truth_of (from_truth truth) ≡ truth
back None = refl
back (Some true) = refl
back (Some false) = refl

applied : (op : ConstraintOp) (first : Option Affinity) (left right : Value) → apply_of (operator_of op) first None left right ≡ from_truth (unless_null left right (wanted op (compared first None left right)))
applied Eq first left right = refl
applied Lt first left right = refl
applied Le first left right = refl
applied Gt first left right = refl
applied Ge first left right = refl

passes-met : (op : ConstraintOp) (first : Option Affinity) (left right : Value) → is_passed op left (turned first right) ≡ unwrap_or (truth_of (apply_of (operator_of op) first None left right)) false
passes-met op first left right = sym (
    ap (λ v. unwrap_or (truth_of v) false) (applied op first left right)
    ∙ ap (λ (o : Option Bool). unwrap_or o false) (back (unless_null left right (wanted op (compared first None left right)))
    ∙ ap (λ o. unless_null left right (wanted op o)) (same-order first left right)
    ∙ same-nulls first left right (wanted op (order_of left (turned first right)))))

pub passes-meets : (table : ℕ) (constraints : List Constraint) (row : List Value) → list_all (passes row) (map (tested table) constraints) ≡ meets table constraints row
passes-meets table [] row = refl
passes-meets table (c ∷ cs) row = λ i. passes-met c.op (affinity_at table c.column) (get_or row c.column Null) c.value i && passes-meets table cs row i

pub passes-at : (found : Option Value) (row : List Value) (test : Constraint) → found ≡ slice_get row test.column → is_passed test.op (unwrap_or found Null) test.value ≡ passes row test
passes-at found row test h = ap (λ v. is_passed test.op v test.value) (ap (λ (o : Option Value). unwrap_or o Null) h ∙ unwrap_or-slice_get row test.column Null)

-- Null passes no test
pub null-fails : (op : ConstraintOp) (right : Value) → false ≡ is_passed op Null right
null-fails op Null = refl
null-fails op (Int n) = refl
null-fails op (Text s) = refl

-- the rows that pass the tests are those that meet the constraints
pub filter-same : {X : Type 0} (f g : X → Bool) → ((x : X) → f x ≡ g x) → (xs : List X) → filter f xs ≡ filter g xs
filter-same f g same [] = refl
filter-same f g same (x ∷ xs) = λ i. cond (same x i) (x ∷ filter-same f g same xs i) (filter-same f g same xs i)

-- one more place of a table
pub row-then : {X : Type 0} (test : X → Bool) (rows : List X) (at : ℕ) (found : Option X) (before new : List X) → at < length rows → found ≡ slice_get rows at
    → before ≡ filter test (take at rows) → new ≡ before ++ filter test (option_to_list found) → new ≡ filter test (take (at + 1) rows)
row-then test [] at found before new within is was now = absurd (omega arith)
row-then test (x ∷ xs) at found before new within is was now =
    now ∙ (λ i. was i ++ filter test (option_to_list ((is ∙ slice_get-get_or (x ∷ xs) at x within) i)))
    ∙ sym (filter-append test (take at (x ∷ xs)) (get_or (x ∷ xs) at x ∷ []))
    ∙ ap (filter test) (sym (take_more (x ∷ xs) at x within))

pub passes-are : (table : ℕ) (constraints tests : List Constraint) → tests ≡ map (tested table) constraints
    → (rows : List (List Value)) → filter (λ (row : List Value). list_all (passes row) tests) rows ≡ filter (meets table constraints) rows
passes-are table constraints tests is rows =
    ap (λ (ts : List Constraint). filter (λ (row : List Value). list_all (passes row) ts) rows) is
    ∙ filter-same (λ (row : List Value). list_all (passes row) (map (tested table) constraints)) (meets table constraints) (passes-meets table constraints) rows
