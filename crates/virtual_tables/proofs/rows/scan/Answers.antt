use Rattle.std.proofs.Common.{◌∙◌, List, ap, map}
use Rattle.std.proofs.lemmas.Result.{IfOk-weaker}
use Rattle.virtual_tables.specs.declared.constraint.Constraint.{Constraint}
use Rattle.virtual_tables.specs.Tests.{tested}
use Rattle.virtual_tables.proofs.Turning.{passes-are}
use Rattle.virtual_tables.proofs.rows.scan.Goals as goal

pub returns : goal.returns
returns g c =
    IfOk-weaker c.passing.result _ _
    (λ rows is. is ∙ passes-are c.args.table.0 c.args.constraints.now c.as_slice-2.result.now
    (c.as_slice-2.ensures ∙ c.in_ok-tests.ensures ∙ ap (λ (cs : List Constraint). map (tested c.args.table.0) cs) c.as_slice.ensures)
    (g.V.Tables.rows_of c.args.view.now c.args.table.0))
    c.passing.ensures
