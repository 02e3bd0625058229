use Rattle.std.proofs.Common.{◌∙◌, sym, take}
use Rattle.std.proofs.lemmas.Result.{IfOk-weaker}
use Rattle.sql_planner.proofs.OneTable.{same-filter}
use Rattle.sql_planner.proofs.single.passing.Goals as goal

pub returns-in-Some : goal.returns-in-Some
returns-in-Some g c = IfOk-weaker c.passing_one.result _ _ (λ rows is. is ∙ same-filter _ _ (λ row. sym (c.in-Some.ensures row)) (take c.args.read (g.V.Tables.rows_of c.args.view.now c.args.table.0))) c.passing_one.ensures
