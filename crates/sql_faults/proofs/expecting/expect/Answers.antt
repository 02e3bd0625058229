use Rattle.std.proofs.Common.{ap, ◌∙◌}
use Rattle.sql_faults.specs.Stack.{expects}
use Rattle.sql_faults.proofs.Stack.{expects-push}
use Rattle.sql_faults.proofs.expecting.expect.Goals as goal

pub returns : goal.returns
returns c = ap expects c.in_ok-push.ensures.items ∙ expects-push c.args.parts.now.items c.args.part
