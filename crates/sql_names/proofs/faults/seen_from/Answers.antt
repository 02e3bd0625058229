use Rattle.sql_scope.proofs.Widths.{narrow_take}
use Rattle.sql_names.proofs.faults.seen_from.Goals as goal

pub returns-in-On-clause-narrow : goal.returns-in-On-clause-narrow
returns-in-On-clause-narrow c = narrow_take c.args.scope.now _ c.requires
