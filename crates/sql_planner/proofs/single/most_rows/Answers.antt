use Rattle.std.proofs.Common.{ap, arith, map, rules}
use Rattle.sql_query.specs.Resolved.{order_of}
use Rattle.sql_planner.proofs.EarlyEnd.{no-items}
use Rattle.sql_planner.proofs.single.most_rows.Goals as goal

pub returns-in-Ok : goal.returns-in-Ok
returns-in-Ok c = (
  c.if-query.false,
  ap (map order_of) (no-items c.args.query.now.terms (let h = c.if-len-gt0.false in let l = c.len.ensures in omega (arith, h, l))),
  search rules,
)
