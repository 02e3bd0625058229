-- The event of a change.
use Rattle.std.specs.Prelude.{◌≡◌, ℕ, List, [], ◌∷◌, ◌++◌, slice_get, unwrap_or, IsTrue, Option, Some, None}
use Rattle.std.specs.List.{All, Any}
use Rattle.std.specs.Cmp.Lexicographic.{slice_cmp}
use Rattle.std.specs.Ordering.{is_lt, nat_cmp}
use Rattle.osq_value.specs.declared.reading.Category.{Category}
use Rattle.osq_value.specs.declared.value.TheConstants.TableId.{FILE_EVENTS}
use Rattle.osq_value.specs.declared.value.Event.{Event}
use Rattle.osq_value.specs.declared.value.Value.{Value}
use Rattle.osq_value.specs.declared.value.Value.TheVariants.{Null, Text}
use Rattle.change_records.specs.declared.change.Change.{Change}
use Rattle.change_records.specs.Patterns.{MatchesPath}

abbrev pub SomeMatches : List (List ℕ) → List ℕ → Type 0
SomeMatches patterns path = Any (λ pattern. MatchesPath pattern path) patterns

-- some pattern matches the path, and no excluded pattern does
abbrev pub Takes : Category → List ℕ → Type 0
Takes category path = SomeMatches category.patterns path × (SomeMatches category.excluded path → ⊥)

-- names stand in the order of their bytes
abbrev pub StandsBefore : List ℕ → List ℕ → Type 0
StandsBefore name other = IsTrue (is_lt (slice_cmp nat_cmp name other))

-- A path's category has the least name of those that take the path; of equal names the first in the list is meant.
pub record IsCategoryOf (path : List ℕ) (categories : List Category) (category : Category) : Type 0 where
  pub before : List Category
  pub after : List Category
  pub place : categories ≡ before ++ category ∷ after
  pub takes : Takes category path
  pub before_it : All (λ (other : Category). Takes other path → StandsBefore category.name other.name) before
  pub after_it : All (λ (other : Category). Takes other path → StandsBefore other.name category.name → ⊥) after

abbrev pub FindsCategory : List ℕ → List Category → Option Category → Type 0
FindsCategory path categories None = All (λ (category : Category). Takes category path → ⊥) categories
FindsCategory path categories (Some category) = IsCategoryOf path categories category

-- a category whose name stands before the name of one that was found
abbrev pub BeforeFound : Category → Option Category → Type 0
BeforeFound category None = Unit {0}
BeforeFound category (Some found) = StandsBefore category.name found.name

-- a place that the numbers lack is Null
abbrev pub number_at : ℕ → List Value → Value
number_at place numbers = unwrap_or (slice_get numbers place) Null

-- target_path, category, action, inode, uid, gid, mode, size, mtime, time
abbrev pub file_row : Change → List ℕ → List Value
file_row change category =
    Text change.path ∷ Text category ∷ Text change.action ∷ number_at 0 change.numbers ∷ number_at 1 change.numbers ∷ number_at 2 change.numbers
    ∷ change.mode ∷ number_at 3 change.numbers ∷ number_at 4 change.numbers ∷ change.time ∷ []

-- the row that the table file_events gains
abbrev pub file_event : Change → List ℕ → Event
file_event change category = record { table = FILE_EVENTS; row = file_row change category }

-- no event where no category takes the path
abbrev pub IsEventOf : Change → List Category → Option Event → Type 0
IsEventOf change categories None = FindsCategory change.path categories None
IsEventOf change categories (Some event) = (category : Category) × IsCategoryOf change.path categories category × (event ≡ file_event change category.name)
