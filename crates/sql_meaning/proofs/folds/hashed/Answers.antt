use Rattle.std.proofs.Common.{◌∙◌, ap, List}
use Rattle.indexmap.specs.IndexSet.{insert_key}
use Rattle.osq_value.specs.declared.value.Value.{Value}
use Rattle.osq_value.specs.contracts.value.ValuePartialEq.TheImpl as equality
use Rattle.sql_meaning.proofs.FoldsLaws.{different-more}
use Rattle.sql_meaning.proofs.folds.hashed.Goals as goal

pub loop-value-preserved : goal.loop-value-preserved
loop-value-preserved c =
    c.in_ok-insert.ensures.keys
    ∙ ap (λ (keys : List Value). insert_key equality.eq-value.it keys c.in-Some.value) c.loop-value.invariant
    ∙ different-more c.loop-value.yielded c.in-Some.value
