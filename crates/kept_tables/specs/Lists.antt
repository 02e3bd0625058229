-- The text of a list that is being written.
use Rattle.std.specs.Prelude.{ℕ, List, [], ◌∷◌, ◌++◌}
use Rattle.result_batches.specs.Json.{each_behind_comma}

-- the text of a list of items with these texts, before what closes it; nothing before the first item
abbrev pub opened : List (List ℕ) → List ℕ
opened [] = []
opened (text ∷ rest) = 91 ∷ (text ++ each_behind_comma rest)
