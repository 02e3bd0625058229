-- The tables of the catalogue one by one.
use Rattle.std.proofs.Common.{◌≡◌, ◌∙◌, ℕ, ◌+◌, ◌-◌, ◌<◌, ap, arith, suc, List, [], ◌∷◌, ◌++◌, map}
use Rattle.std.proofs.lemmas.List.{append_assoc}
use Rattle.sql_query.specs.declared.derived.Derived.{Derived}
use Rattle.custom_tables.specs.declared.asked.Asked.{Asked}
use Rattle.custom_tables.specs.Derived.{catalogue_from, table_of_catalogue}
use Rattle.custom_tables.specs.Hidden.{with_hidden}

one_left : (place : ℕ) → place < 15 → suc (15 - (place + 1)) ≡ 15 - place
one_left place below = omega (arith, below)

-- what is left from a place on is the table there and what is left behind it
pub next_table : (asked : List Asked) (tables : List Derived) (place : ℕ) → place < 15
    → tables ++ with_hidden asked (table_of_catalogue place) ∷ [] ++ map (with_hidden asked) (catalogue_from (15 - (place + 1)) (place + 1)) ≡ tables ++ map (with_hidden asked) (catalogue_from (15 - place) place)
next_table asked tables place below =
    append_assoc tables (with_hidden asked (table_of_catalogue place) ∷ []) (map (with_hidden asked) (catalogue_from (15 - (place + 1)) (place + 1)))
    ∙ ap (λ n. tables ++ map (with_hidden asked) (catalogue_from n place)) (one_left place below)
