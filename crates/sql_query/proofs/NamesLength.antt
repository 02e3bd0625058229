-- A result has a name for each of its columns.
use Rattle.std.proofs.Common.{◌≡◌, ℕ, List, [], ◌∷◌, length, map, refl, ap, ◌∙◌, suc}
use Rattle.std.proofs.lemmas.List.{length-map}
use Rattle.sql_query.specs.declared.query.QueryItem.{QueryItem}
use Rattle.sql_query.specs.Answers.{names_in_result}
use Rattle.sql_query.specs.Resolved.{ResultTree, result_of}

names_length : (items : List ResultTree) → length (names_in_result items) ≡ length items
names_length [] = refl
names_length (item ∷ items) = ap suc (names_length items)

pub names_count : (names : List (List ℕ)) (items : List QueryItem) → names ≡ names_in_result (map result_of items) → length names ≡ length items
names_count names items e = ap length e ∙ names_length (map result_of items) ∙ length-map items result_of
