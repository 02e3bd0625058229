-- Rows that were put beside the number of values that they are looked up by.
use Rattle.std.proofs.Common.{◌≡◌, ℕ, refl, ap, List, [], ◌∷◌, map}
use Rattle.sql_meaning.specs.declared.front.Front.{Front}
use Rattle.sql_meaning.specs.declared.worth.Worth.{Worth}
use Rattle.sql_meaning.specs.Fronts.{fronted}

abbrev pub items_of : Front Worth → List Worth
items_of front = front.items

pub items-back : (width : ℕ) (rows : List (List Worth)) → map items_of (map (fronted width) rows) ≡ rows
items-back width [] = refl
items-back width (row ∷ rows) = ap (λ (rest : List (List Worth)). row ∷ rest) (items-back width rows)
