use Rattle.std.proofs.Common.{◌≡◌, List, take}
use Rattle.osq_value.specs.declared.value.Value.{Value}
use Rattle.sql_query.specs.View.{exprs_of}
use Rattle.sql_scalar.specs.Comparison.{in_of}
use Rattle.sql_scalar.specs.Truth.{truth_of}
use Rattle.sql_meaning.specs.Expressions.{alone, values_of}
use Rattle.sql_planner.specs.RowTests.{found_in}
use Rattle.sql_planner.proofs.item_set.item_set.Given as goal

abbrev pub invariant-loop-item : goal.invariant-loop-item
invariant-loop-item l = (row : List Value) (value : Value) → found_in l.set value ≡ truth_of (in_of l.affinity value (values_of (alone row) (exprs_of (take l.item-index l.items))))
