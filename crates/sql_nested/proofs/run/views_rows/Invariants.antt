use Rattle.std.proofs.Common.{◌≡◌, [], drop, map}
use Rattle.sql_nested.specs.Extending.{with_view_rows}
use Rattle.sql_nested.specs.Trees.{text_of}
use Rattle.sql_nested.proofs.run.views_rows.Given as goal

abbrev pub invariant-loop-text : goal.invariant-loop-text
invariant-loop-text g l = with_view_rows (g.V.Tables.rows_of l.view) l.made.items (map text_of (drop l.text-index l.views)) ≡ with_view_rows (g.V.Tables.rows_of l.view) [] (map text_of l.views)
