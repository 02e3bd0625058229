-- For proofs of the code's steps, and no part of the meaning: groups by the values of a column or of expressions, one row after another.
use Rattle.std.specs.Prelude.{◌≡◌, ℕ, Bool, if◌then◌else◌, List, [], ◌∷◌, ◌++◌, Option, Some, None, filter, get_or, map, set}
use Rattle.std.specs.Borrow.{Bor}
use Rattle.std.specs.List.{AllZip, list_any, position_or_len}
use Rattle.indexmap.specs.IndexSet.{insert_key}
use Rattle.osq_value.specs.declared.value.Value.{Value}
use Rattle.sql_query.specs.Exprs.{ExprTree}
use Rattle.sql_meaning.specs.declared.joined.Joined.{Joined}
use Rattle.sql_meaning.specs.Expressions.{alone, holds}
use Rattle.sql_meaning.specs.Firsts.{firsts_by, same_values}
use Rattle.sql_meaning.specs.Lent.{values_in}
use Rattle.sql_groups.specs.declared.grouped.FoundGroups.{FoundGroups}
use Rattle.sql_groups.specs.declared.grouped.KeyedGroups.{KeyedGroups}
use Rattle.sql_groups.specs.declared.items.GroupItem.{GroupItem}
use Rattle.sql_groups.specs.declared.so_far.SoFar.{SoFar}
use Rattle.sql_groups.specs.Different.{equal, held, held_alone}
use Rattle.sql_groups.specs.Folding.{HasFolded, lists, lists_by}
use Rattle.sql_groups.specs.Kept.{is_kept}
use Rattle.sql_groups.specs.Keys.{key_worths, row_values}

-- what is known of each column of the result after these rows of a group
abbrev pub AreKnown : List GroupItem → List (List Value) → List SoFar → Type 0
AreKnown items rows group = AllZip (HasFolded rows) items group

-- the rows for which the condition holds
abbrev pub kept_values : List ExprTree → List (List Value) → List (List Value)
kept_values condition rows = filter (λ row. holds (alone row) condition) rows

-- the same of each group
abbrev pub IsFolded : List GroupItem → List (List (List Value)) → List (List SoFar) → Type 0
IsFolded items lists groups = AllZip (AreKnown items) lists groups

-- a group after one more row
abbrev pub Grows : List Value → List SoFar → List SoFar → Type 0
Grows row old new = (items : List GroupItem) (rows : List (List Value)) → AreKnown items rows old → AreKnown items (rows ++ row ∷ []) new

-- the groups with one more, which begins with a row
abbrev pub Begins : List GroupItem → List (List SoFar) → List Value → List (List SoFar) → Type 0
Begins items old row new = (group : List SoFar) × (new ≡ old ++ group ∷ []) × AreKnown items (row ∷ []) group

-- a row goes to the group at a place, or begins one
abbrev pub Puts : List GroupItem → List (List SoFar) → Option ℕ → List Value → List (List SoFar) → Type 0
Puts items old None row new = Begins items old row new
Puts items old (Some at) row new = (group : List SoFar) × (new ≡ set old at group) × Grows row (get_or old at []) group

abbrev pub values_of : FoundGroups → List Value
values_of found = map (λ (value : Bor Value). value.now) found.values.keys

-- the place of a value among others, where it is one of them
abbrev pub place_of : {F : Type 0} → (F → F → Bool) → F → List F → Option ℕ
place_of same value values = if list_any (same value) values then Some (position_or_len (same value) values) else None

-- a row goes to the group of its value
abbrev pub Adds : List GroupItem → FoundGroups → Joined → Value → FoundGroups → Type 0
Adds items old row value new = (values_of new ≡ insert_key equal (values_of old) value) × Puts items old.groups.items (place_of equal value (values_of old)) (values_in row) new.groups.items

-- what was found of these rows
abbrev pub Folds : ℕ → List ExprTree → List GroupItem → List Joined → FoundGroups → Type 0
Folds place condition items rows found =
    (values_of found ≡ map (held place) (firsts_by (held_alone place) (filter (is_kept condition) rows))) × IsFolded items (lists place condition rows) found.groups.items

abbrev pub keys_of : KeyedGroups → List (List Value)
keys_of found = map key_worths found.keys.keys

-- a row goes to the group of its values
abbrev pub AddsKey : List GroupItem → KeyedGroups → Joined → List Value → KeyedGroups → Type 0
AddsKey items old row key new =
    (keys_of new ≡ insert_key same_values (keys_of old) key) × Puts items old.groups.items (place_of same_values key (keys_of old)) (values_in row) new.groups.items

-- what was found of these rows by expressions
abbrev pub FoldsKeys : List ExprTree → List ExprTree → List GroupItem → List Joined → KeyedGroups → Type 0
FoldsKeys exprs condition items rows found =
    (keys_of found ≡ map (row_values exprs) (firsts_by (row_values exprs) (filter (is_kept condition) rows))) × IsFolded items (lists_by (row_values exprs) condition rows) found.groups.items
