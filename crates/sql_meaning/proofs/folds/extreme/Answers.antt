use Rattle.std.proofs.Common.{ap, ◌∙◌, sym, Some, Option}
use Rattle.osq_value.specs.declared.value.Value.{Value}
use Rattle.sql_meaning.specs.Looks.{nearer_of}
use Rattle.sql_meaning.proofs.FoldsLaws.{reduce-push}
use Rattle.sql_meaning.proofs.folds.extreme.Goals as goal

pub loop-value-preserved : goal.loop-value-preserved
loop-value-preserved c =
    ap Some (c.nearer.ensures ∙ ap (λ (best : Option Value). nearer_of c.args.is_greatest best c.in-Some.value) c.loop-value.invariant)
    ∙ sym (reduce-push c.args.is_greatest c.loop-value.yielded c.in-Some.value)
