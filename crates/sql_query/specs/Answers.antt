-- What a query says of its tables and of its result.
use Rattle.std.specs.Prelude.{ℕ, ◌==◌, Bool, true, false, if◌then◌else◌, List, [], ◌∷◌, Option, Some, None}
use Rattle.osq_value.specs.declared.catalogue.TableKind.{TableKind}
use Rattle.osq_value.specs.declared.catalogue.TableKind.TheVariants.{Evented, Recorded, Computed}
use Rattle.osq_value.specs.Catalogue.{Heading, heading_at}
use Rattle.sql_query.specs.Resolved.{SourceTree, ResultTree, QueryTree}

abbrev pub is_evented_kind : TableKind → Bool
is_evented_kind Evented = true
is_evented_kind Recorded = false
is_evented_kind Computed = false

abbrev pub is_evented_heading : Option Heading → Bool
is_evented_heading None = false
is_evented_heading (Some heading) = is_evented_kind heading.kind

-- some FROM table is evented
abbrev pub is_evented_among : List SourceTree → Bool
is_evented_among [] = false
is_evented_among (source ∷ sources) = if is_evented_heading (heading_at source.table) then true else is_evented_among sources

abbrev pub is_evented_query : QueryTree → Bool
is_evented_query query = is_evented_among query.sources

-- some FROM table has that number
abbrev pub is_among : ℕ → List SourceTree → Bool
is_among table [] = false
is_among table (source ∷ sources) = if source.table == table then true else is_among table sources

-- the names of the columns of the result
abbrev pub names_in_result : List ResultTree → List (List ℕ)
names_in_result [] = []
names_in_result (item ∷ items) = item.name ∷ names_in_result items

abbrev pub result_names : QueryTree → List (List ℕ)
result_names query = names_in_result query.items
