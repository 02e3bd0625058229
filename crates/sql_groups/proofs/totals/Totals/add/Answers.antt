use Rattle.std.proofs.lemmas.Result.{IfOk-weaker}
use Rattle.sql_groups.proofs.totals.Totals.add.Goals as goal

pub returns : goal.returns
returns c = IfOk-weaker c.add_all.result _ _ (λ told adds h query before was. (was.0, was.1, was.2, adds h was.0 before was.3)) c.add_all.ensures
