-- Names in byte order.
use Rattle.std.specs.Prelude.{◌≡◌, ℕ, Bool, true, ◌&&◌, List, [], ◌∷◌, map, All}
use Rattle.std.specs.Cmp.Lexicographic.{slice_cmp}
use Rattle.std.specs.Ordering.{is_lt, nat_cmp}
use Rattle.osq_value.specs.declared.reading.Category.{Category}
use Rattle.osq_config.specs.declared.config.Config.{Config}
use Rattle.osq_config.specs.declared.config.Pack.{Pack}
use Rattle.osq_config.specs.declared.config.QueryEntry.{QueryEntry}

-- each name stands before the next by their bytes, so none stands twice
abbrev pub names_rise : List (List ℕ) → Bool
names_rise [] = true
names_rise (first ∷ []) = true
names_rise (first ∷ second ∷ rest) = is_lt (slice_cmp nat_cmp first second) && names_rise (second ∷ rest)

abbrev pub entry_names : List QueryEntry → List (List ℕ)
entry_names entries = map (λ (entry : QueryEntry). entry.name) entries

abbrev pub pack_names : List Pack → List (List ℕ)
pack_names packs = map (λ (pack : Pack). pack.name) packs

abbrev pub category_names : List Category → List (List ℕ)
category_names categories = map (λ (category : Category). category.name) categories

-- the queries of a pack stand in byte order of their names
abbrev pub QueriesRise : Pack → Type 0
QueriesRise pack = names_rise (entry_names pack.queries) ≡ true

-- all lists of a configuration stand in byte order of names
pub record NamesRise (config : Config) : Type 0 where
  pub schedule : names_rise (entry_names config.schedule) ≡ true
  pub packs : names_rise (pack_names config.packs) ≡ true
  pub queries : All QueriesRise config.packs
  pub categories : names_rise (category_names config.categories) ≡ true
