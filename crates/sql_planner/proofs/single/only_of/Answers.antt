use Rattle.std.proofs.Common.{◌≡◌, ◌∙◌, ap, arith, length}
use Rattle.sql_planner.specs.RowTests.{passes, passes_one}
use Rattle.sql_planner.proofs.OneTable.{any-of-one}
use Rattle.sql_planner.proofs.single.only_of.Goals as goal

pub returns-in-Some : goal.returns-in-Some
returns-in-Some c = λ row.
    let a = c.in-len1.len_at_least in
    let b = c.in-len1.len_below in
    let one : length c.args.tests.now ≡ 1 = omega (arith, a, b) in
    any-of-one (passes_one row) c.args.tests.now c.only-item.result one c.only-item.is ∙ ap (passes c.only-item.result.test) (c.in-Some.ensures row)
