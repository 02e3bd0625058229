use Rattle.std.proofs.Common.{◌≡◌, List, map, take}
use Rattle.std.specs.List.{list_all}
use Rattle.osq_value.specs.declared.value.Value.{Value}
use Rattle.sql_query.specs.View.{expr_of}
use Rattle.sql_meaning.specs.Expressions.{alone, holds}
use Rattle.sql_planner.specs.RowTests.{passes_some}
use Rattle.sql_planner.proofs.testing.tests_of.Given as goal

abbrev pub invariant-loop-part : goal.invariant-loop-part
invariant-loop-part l = (row : List Value) → list_all (passes_some row) l.lists ≡ holds (alone row) (map expr_of (take l.part-index l.parts))
