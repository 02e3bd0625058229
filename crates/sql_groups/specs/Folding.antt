-- For proofs of the code's steps, and no part of the meaning: groups that are folded row by row.
use Rattle.std.specs.Prelude.{◌≡◌, ◌+◌, ◌+ℤ◌, ℕ, ℤ, pos, Bool, true, false, List, [], ◌∷◌, Option, Some, None, filter, filter_map, length, map}
use Rattle.std.specs.Borrow.{Bor}
use Rattle.std.specs.Option.{option_copied}
use Rattle.osq_value.specs.declared.value.Value.{Value}
use Rattle.osq_value.specs.declared.value.Value.TheVariants.{Null, Int}
use Rattle.sql_tree.specs.declared.functions.Fold.TheVariants.{Count, Sum, Min, Max}
use Rattle.sql_scalar.specs.Arithmetic.{whole, within}
use Rattle.sql_query.specs.Exprs.{ExprTree}
use Rattle.sql_meaning.specs.declared.joined.Joined.{Joined}
use Rattle.sql_query.specs.declared.tree.Expr.{Expr}
use Rattle.sql_query.specs.View.{expr_of}
use Rattle.sql_meaning.specs.Expressions.{alone, value_at, value_of}
use Rattle.sql_meaning.specs.Folds.{folded_over, total}
use Rattle.sql_meaning.specs.Groups.{groups_by}
use Rattle.sql_meaning.specs.Known.{is_known}
use Rattle.sql_meaning.specs.Lent.{values_in}
use Rattle.sql_meaning.specs.Looks.{extreme_of, nearer_of}
use Rattle.sql_meaning.specs.Steps.{first_row}
use Rattle.sql_groups.specs.declared.items.GroupItem.{GroupItem}
use Rattle.sql_groups.specs.declared.items.GroupItem.TheVariants as item
use Rattle.sql_groups.specs.declared.so_far.SoFar.{SoFar}
use Rattle.sql_groups.specs.declared.so_far.SoFar.TheVariants as so_far
use Rattle.sql_groups.specs.Different.{held_alone}
use Rattle.sql_groups.specs.Kept.{is_kept}

-- what a column of the result is of the rows of a group
abbrev pub item_over : GroupItem → List (List Value) → Value
item_over (item.First place) rows = value_at (first_row rows) place
item_over (item.Alone e) rows = value_of (alone (first_row rows)) (expr_of e.now)
item_over item.Rows rows = Int (pos (length rows))
item_over (item.Folded fold place) rows = folded_over fold false (map (λ row. value_at row place) rows)

-- the values at a place of rows that aren't Null
abbrev pub knowns : ℕ → List (List Value) → List Value
knowns place rows = filter is_known (map (λ row. value_at row place) rows)

-- the true sum of numbers, where there are some
abbrev pub sum_of : List ℤ → Option ℤ
sum_of [] = None
sum_of (n ∷ ns) = Some (total (n ∷ ns))

-- the same with a further number, where there is one
abbrev pub sum_with : Option ℤ → Option ℤ → Option ℤ
sum_with sum None = sum
sum_with None (Some n) = Some n
sum_with (Some m) (Some n) = Some (m +ℤ n)

-- a value's number, where there is a value that has one
abbrev pub number_in : Option Value → Option ℤ
number_in None = None
number_in (Some value) = whole value

-- a sum is Null of no numbers and outside 64 bits
abbrev pub sum_worth : Option ℤ → Value
sum_worth None = Null
sum_worth (Some n) = within n

-- the best value with a further one, where there is one
abbrev pub best_with : Bool → Option Value → Option Value → Option Value
best_with is_greatest best None = best
best_with is_greatest best (Some value) = Some (nearer_of is_greatest best value)

-- a count with a further row that counts, or with one that doesn't
abbrev pub count_with : ℕ → Bool → ℕ
count_with count true = count + 1
count_with count false = count

-- what is known of a column of the result after these rows
pub data HasFolded : List (List Value) → GroupItem → SoFar → Type 0 where
  first : (row : List Value) (rows : List (List Value)) (place : ℕ) (value : Bor Value) → value.now ≡ value_at row place → HasFolded (row ∷ rows) (item.First place) (so_far.First value)
  lone : (row : List Value) (rows : List (List Value)) (joined : Joined) (e : Bor Expr) → values_in joined ≡ row → HasFolded (row ∷ rows) (item.Alone e) (so_far.Alone joined e)
  counted : (rows : List (List Value)) (count : ℕ) → count ≡ length rows → HasFolded rows item.Rows (so_far.Rows count)
  known : (rows : List (List Value)) (place count : ℕ) → count ≡ length (knowns place rows) → HasFolded rows (item.Folded Count place) (so_far.Known place count)
  summed : (rows : List (List Value)) (place : ℕ) (sum : Option ℤ) → sum ≡ sum_of (filter_map whole (knowns place rows)) → HasFolded rows (item.Folded Sum place) (so_far.Sum place sum)
  least : (rows : List (List Value)) (place : ℕ) (best : Option (Bor Value)) → option_copied best ≡ extreme_of false (knowns place rows) → HasFolded rows (item.Folded Min place) (so_far.Nearest place false best)
  greatest : (rows : List (List Value)) (place : ℕ) (best : Option (Bor Value)) → option_copied best ≡ extreme_of true (knowns place rows) → HasFolded rows (item.Folded Max place) (so_far.Nearest place true best)

-- the rows for which the condition holds, grouped by a key
abbrev pub lists_by : (Joined → List Value) → List ExprTree → List Joined → List (List (List Value))
lists_by key condition rows = map (map values_in) (groups_by key (filter (is_kept condition) rows))

-- the same by the value at a place
abbrev pub lists : ℕ → List ExprTree → List Joined → List (List (List Value))
lists place condition rows = lists_by (held_alone place) condition rows
