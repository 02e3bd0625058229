-- A column with a literal behind it.
use Rattle.std.specs.Prelude.{◌≡◌, ℕ}
use Rattle.sql_query.specs.Exprs.{ExprTree, chain, column, then, no_steps, binary, literal}
use Rattle.sql_planner.specs.declared.column_test.ColumnTest.{ColumnTest}

-- the expression is the column at that place, which has that affinity, with the operator and the literal behind it
abbrev pub IsColumnTest : ExprTree → ColumnTest → Type 0
IsColumnTest e test = (source : ℕ) × (number : ℕ) × (e ≡ chain (column source number test.at test.affinity) (then no_steps (binary test.op (literal test.value.now))))
