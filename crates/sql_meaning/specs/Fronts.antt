-- For proofs of the code's steps, and no part of the meaning: rows beside the number of values that they are looked up by.
use Rattle.std.specs.Prelude.{ℕ, List}
use Rattle.sql_meaning.specs.declared.worth.Worth.{Worth}
use Rattle.sql_meaning.specs.declared.front.Front.{Front}

abbrev pub fronted : ℕ → List Worth → Front Worth
fronted width row = record { items = row; width = width }
