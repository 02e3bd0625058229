-- The tables that a question over custom tables may name.
use Rattle.std.specs.Prelude.{ℕ, zero, suc, ◌+◌, false, List, [], ◌∷◌, ◌++◌, codes, map, Some}
use Rattle.std.specs.Option.{option_map_or}
use Rattle.osq_value.specs.declared.catalogue.Affinity.TheVariants.{Integer, Text}
use Rattle.osq_value.specs.Catalogue.{Heading, heading_at}
use Rattle.sql_query.specs.declared.derived.Derived.{Derived}
use Rattle.sql_query.specs.declared.query.SourceColumn.{SourceColumn}
use Rattle.sql_query.specs.Tables.{columns_at}
use Rattle.custom_tables.specs.declared.asked.Asked.{Asked}
use Rattle.custom_tables.specs.declared.rule.Rule.{Rule}
use Rattle.custom_tables.specs.Hidden.{with_hidden}

abbrev pub text_column : List ℕ → SourceColumn
text_column name = record { name = name; affinity = Some Text; hidden = false }

-- the keys of a rule as texts, and then the second
abbrev pub rule_columns : Rule → List SourceColumn
rule_columns rule = map text_column rule.keys ++ (record { name = codes "time"; affinity = Some Integer; hidden = false }) ∷ []

abbrev pub table_of_rule : Rule → Derived
table_of_rule rule = record { name = rule.name; columns = rule_columns rule }

-- a table of the catalogue, by its number
abbrev pub table_of_catalogue : ℕ → Derived
table_of_catalogue id = record { name = option_map_or (λ (found : Heading). found.name) (heading_at id) []; columns = columns_at [] id }

-- so many tables of the catalogue, from a number on
abbrev pub catalogue_from : ℕ → ℕ → List Derived
catalogue_from zero id = []
catalogue_from (suc count) id = table_of_catalogue id ∷ catalogue_from count (id + 1)

-- the tables of the rules before the fifteen of the catalogue, each with its hidden columns
abbrev pub tables_of : List Rule → List Asked → List Derived
tables_of rules asked = map (λ (rule : Rule). with_hidden asked (table_of_rule rule)) rules ++ map (with_hidden asked) (catalogue_from 15 0)
