use Rattle.std.proofs.Common.{◌≡◌, drop, map}
use Rattle.sql_nested.specs.Extending.{with_part_rows}
use Rattle.sql_nested.specs.Trees.{chain_of}
use Rattle.sql_nested.proofs.run.push_parts.Given as goal

abbrev pub invariant-loop-part : goal.invariant-loop-part
invariant-loop-part g l = with_part_rows (g.V.Tables.rows_of l.view) l.made.items (map chain_of (drop l.part-index l.parts)) ≡ with_part_rows (g.V.Tables.rows_of l.view) l.fn.made.items (map chain_of l.parts)
