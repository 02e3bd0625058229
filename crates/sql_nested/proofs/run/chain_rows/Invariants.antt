use Rattle.std.proofs.Common.{◌≡◌, ◌++◌, drop}
use Rattle.sql_nested.specs.Meanings.{chain_rows}
use Rattle.sql_nested.specs.Trees.{chain_of}
use Rattle.sql_nested.proofs.run.chain_rows.Given as goal

abbrev pub invariant-loop-query : goal.invariant-loop-query
invariant-loop-query g l = l.rows ++ chain_rows (g.V.Tables.rows_of l.view) (chain_of (drop l.query-index l.chain)) ≡ chain_rows (g.V.Tables.rows_of l.view) (chain_of l.chain)
