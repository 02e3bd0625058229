use Rattle.std.proofs.Common.{◌∙◌, Option, ap, unwrap_or}
use Rattle.std.proofs.lemmas.Option.{unwrap_or-slice_get}
use Rattle.std.proofs.lemmas.Result.{IfOk-weaker}
use Rattle.osq_value.specs.declared.value.Value.{Value}
use Rattle.osq_value.specs.declared.value.Value.TheVariants.{Null}
use Rattle.sql_planner.specs.RowTests.{passes}
use Rattle.sql_planner.proofs.single.passes_in.Goals as goal

pub returns-in-Some : goal.returns-in-Some
returns-in-Some c =
    IfOk-weaker c.passes.result _ _
    (λ answer is. is ∙ ap (passes c.args.test.now) (ap (λ (o : Option Value). unwrap_or o Null) c.in-Some.ensures ∙ unwrap_or-slice_get c.args.row.now c.args.column Null))
    c.passes.ensures

pub returns-in-None : goal.returns-in-None
returns-in-None c =
    IfOk-weaker c.passes-in-None.result _ _
    (λ answer is. is ∙ ap (passes c.args.test.now) (ap (λ (o : Option Value). unwrap_or o Null) c.in-None.ensures ∙ unwrap_or-slice_get c.args.row.now c.args.column Null))
    c.passes-in-None.ensures
