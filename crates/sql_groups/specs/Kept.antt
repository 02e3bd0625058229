-- For proofs of the code's steps, and no part of the meaning: the rows for which a condition holds.
use Rattle.std.specs.Prelude.{Bool, List}
use Rattle.sql_query.specs.Exprs.{ExprTree}
use Rattle.sql_meaning.specs.declared.joined.Joined.{Joined}
use Rattle.sql_meaning.specs.Expressions.{alone, holds}
use Rattle.sql_meaning.specs.Lent.{values_in}

abbrev pub is_kept : List ExprTree → Joined → Bool
is_kept condition row = holds (alone (values_in row)) condition
