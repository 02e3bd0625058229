use Rattle.sql_query.specs.View.{expr_of}
use Rattle.sql_planner.proofs.Chains.{more, no-sides}
use Rattle.sql_planner.proofs.comparison.chain_sides.Goals as goal

pub returns-else-is_empty : goal.returns-else-is_empty
returns-else-is_empty c = no-sides (expr_of c.args.first.now) c.args.steps.now (more c.args.steps.now c.is_empty.result c.is_empty.ensures c.if-is_empty.false)
