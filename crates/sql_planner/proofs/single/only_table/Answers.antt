use Rattle.std.proofs.Common.{arith}
use Rattle.sql_planner.proofs.OneTable.{only-one}
use Rattle.sql_planner.proofs.single.only_table.Goals as goal

pub returns-then-is_plain : goal.returns-then-is_plain
returns-then-is_plain c = λ view.
    let a = c.in-len1.len_at_least in
    let b = c.in-len1.len_below in
    only-one view c.args.sources.now c.source-item.result (omega (arith, a, b)) c.source-item.is (c.is_plain.ensures.inner c.if-is_plain.true) (c.is_plain.ensures.bare c.if-is_plain.true)
