-- Lists that are cut into groups, each of which is begun where the one before is full.
use Rattle.std.specs.Prelude.{Bool, if◌then◌else◌, List, [], ◌∷◌, ◌++◌, fold, flat_map}

-- the groups that are full, and the one that may grow
pub record Grouped (X : Type 0) : Type 0 where
  pub full : List (List X)
  pub growing : List X

-- there is room in the growing group
abbrev pub roomy : {X : Type 0} → (List X → Bool) → Grouped X → Grouped X
roomy is_full held = if is_full held.growing then record { full = held.full ++ held.growing ∷ []; growing = [] } else held

abbrev pub with_item : {X : Type 0} → (List X → Bool) → Grouped X → X → Grouped X
with_item is_full held x = record (roomy is_full held) { growing = (roomy is_full held).growing ++ x ∷ [] }

-- a group, if it has an item
abbrev pub some_group : {X : Type 0} → List X → List (List X)
some_group [] = []
some_group (x ∷ xs) = (x ∷ xs) ∷ []

abbrev pub all_groups : {X : Type 0} → Grouped X → List (List X)
all_groups held = held.full ++ some_group held.growing

abbrev pub no_groups : {X : Type 0} → Grouped X
no_groups = record { full = []; growing = [] }

abbrev pub groups : {X : Type 0} → (List X → Bool) → List X → List (List X)
groups is_full xs = all_groups (fold (with_item is_full) no_groups xs)

-- the items of all groups
abbrev pub joined : {X : Type 0} → List (List X) → List X
joined = flat_map (λ xs. xs)
