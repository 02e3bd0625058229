-- What is known of a column of the result, one row after another.
use Rattle.std.proofs.Common.{◌≡◌, ℕ, ℤ, pos, ◌+◌, refl, sym, ap, ◌∙◌, Bool, true, false, List, [], ◌∷◌, ◌++◌, append-nil, filter, filter_map, length, map, option_to_list, unwrap_or, is_some, Option, Some, None, Bor, arith}
use Rattle.std.specs.Option.{option_copied}
use Rattle.std.proofs.lemmas.Int.{ints}
use Rattle.std.proofs.lemmas.List.{length-append, map-append}
use Rattle.std.proofs.lemmas.List.Elements.{filter-append, filter_map-append}
use Rattle.osq_value.specs.declared.value.Value.{Value}
use Rattle.osq_value.specs.declared.value.Value.TheVariants.{Null, Int, Text}
use Rattle.sql_tree.specs.declared.functions.Fold.TheVariants.{Count, Sum}
use Rattle.sql_scalar.specs.Arithmetic.{whole}
use Rattle.sql_query.specs.declared.tree.Expr.{Expr}
use Rattle.sql_query.specs.View.{expr_of}
use Rattle.sql_meaning.specs.declared.joined.Joined.{Joined}
use Rattle.sql_meaning.specs.Lent.{values_in}
use Rattle.sql_meaning.specs.Expressions.{alone, value_at, value_of}
use Rattle.sql_meaning.specs.Folds.{sum_over, total}
use Rattle.sql_meaning.specs.Known.{is_known, known_of}
use Rattle.sql_meaning.specs.Looks.{extreme_of}
use Rattle.sql_meaning.proofs.FoldsLaws.{reduce-push, total-more}
use Rattle.sql_groups.specs.declared.items.GroupItem.{GroupItem}
use Rattle.sql_groups.specs.declared.items.GroupItem.TheVariants as item
use Rattle.sql_groups.specs.declared.so_far.SoFar.TheVariants as so_far
use Rattle.sql_groups.specs.Folding.{HasFolded, best_with, count_with, counted, first, greatest, item_over, known, knowns, lone, least, number_in, sum_of, sum_with, sum_worth, summed}

pub is-copied : (value : Option (Bor Value)) → is_some value ≡ is_some (option_copied value)
is-copied None = refl
is-copied (Some value) = refl

one-value : (value : Value) → filter is_known (value ∷ []) ≡ option_to_list (known_of value)
one-value Null = refl
one-value (Int n) = refl
one-value (Text s) = refl

-- the known values of one row more
knowns-more : (place : ℕ) (rows : List (List Value)) (row : List Value) → knowns place (rows ++ row ∷ []) ≡ knowns place rows ++ option_to_list (known_of (value_at row place))
knowns-more place rows row =
    ap (filter is_known) (map-append (λ (row : List Value). value_at row place) rows (row ∷ []))
    ∙ filter-append is_known (map (λ (row : List Value). value_at row place) rows) (value_at row place ∷ [])
    ∙ ap (λ (vs : List Value). knowns place rows ++ vs) (one-value (value_at row place))

count-more : (values : List Value) (value : Option Value) → length (values ++ option_to_list value) ≡ count_with (length values) (is_some value)
count-more values None = ap length (append-nil values)
count-more values (Some value) = length-append values (value ∷ [])

one-number : (value : Value) → filter_map whole (value ∷ []) ≡ option_to_list (whole value)
one-number Null = refl
one-number (Int n) = refl
one-number (Text t) = refl

sum-pushed : (ns : List ℤ) (number : Option ℤ) → sum_of (ns ++ option_to_list number) ≡ sum_with (sum_of ns) number
sum-pushed [] None = refl
sum-pushed (n ∷ ns) None = ap sum_of (append-nil (n ∷ ns))
sum-pushed [] (Some n) = let e : total (n ∷ []) ≡ n = omega (arith, ints) in ap Some e
sum-pushed (m ∷ ns) (Some n) = ap Some (total-more (m ∷ ns) (Some n))

sum-more : (values : List Value) (value : Option Value) → sum_of (filter_map whole (values ++ option_to_list value)) ≡ sum_with (sum_of (filter_map whole values)) (number_in value)
sum-more values None = ap (λ (vs : List Value). sum_of (filter_map whole vs)) (append-nil values)
sum-more values (Some value) =
    ap sum_of (filter_map-append whole values (value ∷ []) ∙ ap (λ (ns : List ℤ). filter_map whole values ++ ns) (one-number value))
    ∙ sum-pushed (filter_map whole values) (whole value)

best-more : (is_greatest : Bool) (values : List Value) (value : Option Value) → extreme_of is_greatest (values ++ option_to_list value) ≡ best_with is_greatest (extreme_of is_greatest values) value
best-more is_greatest values None = ap (extreme_of is_greatest) (append-nil values)
best-more is_greatest values (Some value) = reduce-push is_greatest values value

pub first-more : (item : GroupItem) (rows : List (List Value)) (row : List Value) (value : Bor Value) → HasFolded rows item (so_far.First value) → HasFolded (rows ++ row ∷ []) item (so_far.First value)
first-more item rows row value (first before others place v is) = first before (others ++ row ∷ []) place v is

pub lone-more : (item : GroupItem) (rows : List (List Value)) (row : List Value) (joined : Joined) (e : Bor Expr) → HasFolded rows item (so_far.Alone joined e) → HasFolded (rows ++ row ∷ []) item (so_far.Alone joined e)
lone-more item rows row joined e (lone before others j f is) = lone before (others ++ row ∷ []) j f is

-- what an expression without an aggregate is worth over the first row
pub lone-worth : (item : GroupItem) (rows : List (List Value)) (joined : Joined) (e : Bor Expr) → HasFolded rows item (so_far.Alone joined e) → value_of (alone (values_in joined)) (expr_of e.now) ≡ item_over item rows
lone-worth item rows joined e (lone before others j f is) = ap (λ (row : List Value). value_of (alone row) (expr_of e.now)) is

pub rows-more : (item : GroupItem) (rows : List (List Value)) (row : List Value) (count : ℕ) → HasFolded rows item (so_far.Rows count) → HasFolded (rows ++ row ∷ []) item (so_far.Rows (count + 1))
rows-more item rows row count (counted rs n is) = counted (rows ++ row ∷ []) (count + 1) (ap (λ n. n + 1) is ∙ sym (length-append rows (row ∷ [])))

pub known-more : (item : GroupItem) (rows : List (List Value)) (row : List Value) (place count : ℕ) → HasFolded rows item (so_far.Known place count)
    → HasFolded (rows ++ row ∷ []) item (so_far.Known place (count_with count (is_some (known_of (value_at row place)))))
known-more item rows row place count (known rs p n is) =
    known (rows ++ row ∷ []) place (count_with count (is_some (known_of (value_at row place))))
    (ap (λ n. count_with n (is_some (known_of (value_at row place)))) is ∙ sym (ap length (knowns-more place rows row) ∙ count-more (knowns place rows) (known_of (value_at row place))))

pub sum-grows : (item : GroupItem) (rows : List (List Value)) (row : List Value) (place : ℕ) (sum : Option ℤ) → HasFolded rows item (so_far.Sum place sum)
    → HasFolded (rows ++ row ∷ []) item (so_far.Sum place (sum_with sum (number_in (known_of (value_at row place)))))
sum-grows item rows row place sum (summed rs p s is) =
    summed (rows ++ row ∷ []) place (sum_with sum (number_in (known_of (value_at row place))))
    (ap (λ s. sum_with s (number_in (known_of (value_at row place)))) is
    ∙ sym (ap (λ (vs : List Value). sum_of (filter_map whole vs)) (knowns-more place rows row) ∙ sum-more (knowns place rows) (known_of (value_at row place))))

best-is : (is_greatest : Bool) (rows : List (List Value)) (row : List Value) (place : ℕ) (best new : Option (Bor Value)) → option_copied best ≡ extreme_of is_greatest (knowns place rows)
    → option_copied new ≡ best_with is_greatest (option_copied best) (known_of (value_at row place)) → option_copied new ≡ extreme_of is_greatest (knowns place (rows ++ row ∷ []))
best-is is_greatest rows row place best new is told =
    told ∙ ap (λ (b : Option Value). best_with is_greatest b (known_of (value_at row place))) is
    ∙ sym (ap (extreme_of is_greatest) (knowns-more place rows row) ∙ best-more is_greatest (knowns place rows) (known_of (value_at row place)))

pub nearest-more : (item : GroupItem) (rows : List (List Value)) (row : List Value) (place : ℕ) (is_greatest : Bool) (best new : Option (Bor Value)) → option_copied new ≡ best_with is_greatest (option_copied best) (known_of (value_at row place))
    → HasFolded rows item (so_far.Nearest place is_greatest best) → HasFolded (rows ++ row ∷ []) item (so_far.Nearest place is_greatest new)
nearest-more item rows row place is_greatest best new told (least rs p b is) = least (rows ++ row ∷ []) place new (best-is false rows row place best new is told)
nearest-more item rows row place is_greatest best new told (greatest rs p b is) = greatest (rows ++ row ∷ []) place new (best-is true rows row place best new is told)

-- before the first row
pub no-known : (place : ℕ) → HasFolded [] (item.Folded Count place) (so_far.Known place 0)
no-known place = known [] place 0 refl

pub no-sum : (place : ℕ) → HasFolded [] (item.Folded Sum place) (so_far.Sum place None)
no-sum place = summed [] place None refl

-- the best of one row is its value
pub one-best : (is_greatest : Bool) (row : List Value) (place : ℕ) (best : Option (Bor Value)) → option_copied best ≡ known_of (value_at row place) → option_copied best ≡ extreme_of is_greatest (knowns place (row ∷ []))
one-best is_greatest row place best is =
    is ∙ alone (known_of (value_at row place)) ∙ sym (ap (extreme_of is_greatest) (one-value (value_at row place)))
  where
    alone : (value : Option Value) → value ≡ extreme_of is_greatest (option_to_list value)
    alone None = refl
    alone (Some value) = refl

sum-worth : (ns : List ℤ) → sum_worth (sum_of ns) ≡ sum_over ns
sum-worth [] = refl
sum-worth (n ∷ ns) = refl

-- what a column is worth after all rows
pub first-worth : (item : GroupItem) (rows : List (List Value)) (value : Bor Value) → HasFolded rows item (so_far.First value) → value.now ≡ item_over item rows
first-worth item rows value (first row others place v is) = is

pub rows-worth : (item : GroupItem) (rows : List (List Value)) (count : ℕ) → HasFolded rows item (so_far.Rows count) → Int (pos count) ≡ item_over item rows
rows-worth item rows count (counted rs n is) = ap (λ n. Int (pos n)) is

pub known-worth : (item : GroupItem) (rows : List (List Value)) (place count : ℕ) → HasFolded rows item (so_far.Known place count) → Int (pos count) ≡ item_over item rows
known-worth item rows place count (known rs p n is) = ap (λ n. Int (pos n)) is

pub summed-worth : (item : GroupItem) (rows : List (List Value)) (place : ℕ) (sum : Option ℤ) → HasFolded rows item (so_far.Sum place sum) → sum_worth sum ≡ item_over item rows
summed-worth item rows place sum (summed rs p s is) = ap sum_worth is ∙ sum-worth (filter_map whole (knowns place rows))

pub best-worth : (item : GroupItem) (rows : List (List Value)) (place : ℕ) (is_greatest : Bool) (best : Option (Bor Value)) → HasFolded rows item (so_far.Nearest place is_greatest best) → unwrap_or (option_copied best) Null ≡ item_over item rows
best-worth item rows place is_greatest best (least rs p b is) = ap (λ (o : Option Value). unwrap_or o Null) is
best-worth item rows place is_greatest best (greatest rs p b is) = ap (λ (o : Option Value). unwrap_or o Null) is
