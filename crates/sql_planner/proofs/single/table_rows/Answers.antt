use Rattle.std.proofs.Common.{◌∙◌, List, ap, map}
use Rattle.std.specs.List.{list_all}
use Rattle.sql_query.specs.View.{expr_of}
use Rattle.sql_query.specs.declared.tree.Expr.{Expr}
use Rattle.sql_meaning.specs.Expressions.{alone, holds}
use Rattle.sql_planner.specs.declared.row_tests.RowTest.{RowTest}
use Rattle.sql_planner.specs.RowTests.{passes_some}
use Rattle.sql_planner.proofs.single.table_rows.Goals as goal

pub all_rows-requires : goal.all_rows-requires
all_rows-requires g c = λ row.
    ap (λ (lists : List (List RowTest)). list_all (passes_some row) lists) c.as_slice-in-None.ensures
    ∙ c.in_ok-tests.ensures row
    ∙ ap (λ (parts : List Expr). holds (alone row) (map expr_of parts)) c.as_slice.ensures

pub early_rows-requires-clause-asked : goal.early_rows-requires-clause-asked
early_rows-requires-clause-asked g c = λ row.
    ap (λ (lists : List (List RowTest)). list_all (passes_some row) lists) c.as_slice-in-Some.ensures
    ∙ c.in_ok-tests.ensures row
    ∙ ap (λ (parts : List Expr). holds (alone row) (map expr_of parts)) c.as_slice.ensures
