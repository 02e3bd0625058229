-- Worked rows of where columns and aggregates stand: over a table of two columns and one of three.
use Rattle.std.proofs.Common.{◌≡◌, ℕ, true, false, List, [], ◌∷◌, Option, Some, None, refl, ap, ◌∙◌, arith}
use Rattle.std.specs.Prelude.{slice_get, codes}
use Rattle.std.proofs.lemmas.Option.{none-some}
use Rattle.osq_value.specs.declared.catalogue.Affinity.{Affinity}
use Rattle.osq_value.specs.declared.catalogue.Affinity.TheVariants.{Integer, Text}
use Rattle.osq_value.specs.declared.value.Value.TheVariants.{Null}
use Rattle.sql_tree.specs.declared.functions.Fold.TheVariants.{Count, Max}
use Rattle.sql_tree.specs.declared.tree.Operator.TheVariants.{Equal}
use Rattle.sql_query.specs.declared.query.SourceColumn.{SourceColumn}
use Rattle.sql_query.specs.Exprs as expr
use Rattle.sql_query.specs.Standing.{IsScoped}

abbrev a_column : List ℕ → Affinity → SourceColumn
a_column name affinity = record { name = name; affinity = Some affinity; hidden = false }

abbrev users : List SourceColumn
users = a_column (codes "uid") Integer ∷ a_column (codes "username") Text ∷ []

abbrev ports : List SourceColumn
ports = a_column (codes "pid") Integer ∷ a_column (codes "port") Integer ∷ a_column (codes "address") Text ∷ []

abbrev both : List (List SourceColumn)
both = users ∷ ports ∷ []

-- the third column of the second table is the fifth of a row
address_stands : IsScoped both false (expr.column 1 2 4 (Some Text))
address_stands = record { columns = ports; found = a_column (codes "address") Text; of_table = refl; of_column = refl; has_affinity = refl; stands_at = refl; is_within = omega arith }

one_place_further : IsScoped both false (expr.column 1 1 4 (Some Integer)) → ⊥
one_place_further stands = let at = stands.stands_at in omega arith

beyond_its_table : IsScoped both false (expr.column 0 2 2 (Some Integer)) → ⊥
beyond_its_table stands = none-some stands.found (ap (λ (o : Option (List SourceColumn)). no_third o) stands.of_table ∙ stands.of_column)
  where
    no_third : Option (List SourceColumn) → Option SourceColumn
    no_third None = None
    no_third (Some columns) = slice_get columns 2

-- the second table isn't seen from what stands over the first alone
not_yet_seen : IsScoped (users ∷ []) false (expr.column 1 0 2 (Some Integer)) → ⊥
not_yet_seen stands = none-some stands.columns stands.of_table

of_another_affinity : IsScoped both false (expr.column 0 1 1 (Some Integer)) → ⊥
of_another_affinity stands =
    let columns : Some users ≡ Some stands.columns = stands.of_table in
    let found : slice_get stands.columns 1 ≡ Some stands.found = stands.of_column in
    let affinity : Some Integer ≡ stands.found.affinity = stands.has_affinity in
    let no : ⊥ = cc in no

no_aggregate : IsScoped both false (expr.count_all Count false) → ⊥
no_aggregate stands = let no : ⊥ = cc in no

an_aggregate : IsScoped both true (expr.chain (expr.folded Max false (expr.literal Null)) (expr.then expr.no_steps (expr.binary Equal (expr.count_all Count false))))
an_aggregate = ((refl, tt), (tt, refl))

none_within_another : IsScoped both true (expr.folded Max false (expr.count_all Count false)) → ⊥
none_within_another stands = let inner : false ≡ true = stands.1 in let no : ⊥ = cc in no
