use Rattle.std.proofs.Common.{arith}
use Rattle.sql_query.specs.Resolved.{query_of}
use Rattle.sql_planner.proofs.EarlyEnd.{early-is}
use Rattle.sql_planner.proofs.single.early_rows.Goals as goal

pub returns-then-len-wanted : goal.returns-then-len-wanted
returns-then-len-wanted g c =
    early-is (query_of c.args.query.now) c.args.wanted c.requires.early c.loop.read (g.V.Tables.rows_of c.args.view.now c.args.table.0) c.in_ok-rows.rows c.in_ok-rows.ensures
    (let h = c.if-len-wanted.true in let l = c.len.ensures in omega (arith, h, l))
