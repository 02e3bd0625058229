-- For proofs of the code's steps, and no part of the meaning: the first rows in an order.
use Rattle.std.specs.Prelude.{◌≡◌, ℕ, Bool, false, List, [], ◌∷◌, ◌++◌, filter, map, take}
use Rattle.std.specs.Ordering.{is_lt}
use Rattle.osq_value.specs.declared.value.Value.{Value}
use Rattle.sql_query.specs.Exprs.{ExprTree}
use Rattle.sql_query.specs.Resolved.{OrderTree}
use Rattle.sql_meaning.specs.declared.groups.Keyed.{Keyed}
use Rattle.sql_meaning.specs.declared.joined.Joined.{Joined}
use Rattle.sql_meaning.specs.Expressions.{alone, value_of}
use Rattle.sql_meaning.specs.Keyed.{member_of}
use Rattle.sql_meaning.specs.Lent.{values_in}
use Rattle.sql_meaning.specs.Order.{order_by, ordered_by, sorted_by}
use Rattle.sql_groups.specs.declared.leading.Leaders.{Leaders}
use Rattle.sql_groups.specs.Kept.{is_kept}

-- none stands before the one that it follows
abbrev pub Climbs : {X : Type 0} → (X → X → Bool) → List X → Type 0
Climbs is_less [] = Unit {0}
Climbs is_less (x ∷ []) = Unit {0}
Climbs is_less (x ∷ y ∷ ys) = (is_less y x ≡ false) × Climbs is_less (y ∷ ys)

-- what a row is sorted by
abbrev pub sort_keys : List OrderTree → List Value → List Value
sort_keys terms row = map (λ (term : OrderTree). value_of (alone row) term.expr) terms

abbrev pub directions : List OrderTree → List Bool
directions terms = map (λ (term : OrderTree). term.is_descending) terms

-- a row behind what it is sorted by
abbrev pub sorted_row : List OrderTree → Joined → List Value × Joined
sorted_row terms row = (sort_keys terms (values_in row), row)

abbrev pub stands_before : List Bool → List Value × Joined → List Value × Joined → Bool
stands_before ways left right = is_lt (order_by ways left.0 right.0)

-- the first so many of such rows, in their order
abbrev pub firsts_of : List Bool → ℕ → List (List Value × Joined) → List (List Value × Joined)
firsts_of ways count pairs = take count (sorted_by (stands_before ways) pairs)

abbrev pub members_of : List Keyed → List (List Value × Joined)
members_of members = map member_of members

-- the first so many of the sorted rows for which the condition holds
abbrev pub leading : List OrderTree → List ExprTree → ℕ → List Joined → List Joined
leading terms condition count rows = take count (ordered_by (λ row. sort_keys terms (values_in row)) (directions terms) (filter (is_kept condition) rows))

-- the rows for which the condition holds
abbrev pub kept_pairs : List OrderTree → List ExprTree → List Joined → List (List Value × Joined)
kept_pairs terms condition rows = map (sorted_row terms) (filter (is_kept condition) rows)

-- those that are kept
abbrev pub all_of : Leaders → List (List Value × Joined)
all_of leaders = members_of leaders.best.items ++ members_of leaders.more.items

-- the first of these rows are the first of those that are kept
abbrev pub Leads : List Bool → ℕ → List (List Value × Joined) → Leaders → Type 0
Leads ways count pairs leaders = Climbs (stands_before ways) (members_of leaders.best.items) × (firsts_of ways count (all_of leaders) ≡ firsts_of ways count pairs)

-- one more row is none of the first, whichever came behind the best
abbrev pub IsBehind : List Bool → ℕ → List (List Value × Joined) → List Value × Joined → Type 0
IsBehind ways count best row = (more : List (List Value × Joined)) → Climbs (stands_before ways) best → firsts_of ways count ((best ++ more) ++ row ∷ []) ≡ firsts_of ways count (best ++ more)
