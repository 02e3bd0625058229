use Rattle.std.proofs.Common.{◌≡◌, ◌++◌, drop}
use Rattle.custom_tables.proofs.table.rows_from.Given as goal

abbrev pub invariant-loop-at : goal.invariant-loop-at
invariant-loop-at l = l.copies ++ drop l.at l.rows.items ≡ drop l.from l.rows.items
