use Rattle.std.proofs.Common.{◌≡◌, ◌∙◌, List, arith, ap, length, sym}
use Rattle.std.specs.List.{list_all}
use Rattle.osq_value.specs.declared.value.Value.{Value}
use Rattle.sql_meaning.specs.Expressions.{value_at}
use Rattle.sql_planner.specs.RowTests.{passes, passes_some}
use Rattle.sql_planner.proofs.OneTable.{all-of-one, some-weaker}
use Rattle.sql_planner.proofs.single.only_test.Goals as goal

pub returns : goal.returns
returns c =
    let a = c.in-len1.len_at_least in
    let b = c.in-len1.len_below in
    let one : length c.args.tests.now ≡ 1 = omega (arith, a, b) in
    some-weaker c.only_of.result (λ found. (row : List Value) → passes_some row c.as_slice.result.now ≡ passes found.0.now (value_at row found.1)) (λ found. (row : List Value) → list_all (passes_some row) c.args.tests.now ≡ passes found.0.now (value_at row found.1))
    (λ found same row. all-of-one (passes_some row) c.args.tests.now c.list-item.result one c.list-item.is ∙ ap (passes_some row) (sym c.as_slice.ensures) ∙ same row)
    c.only_of.ensures
