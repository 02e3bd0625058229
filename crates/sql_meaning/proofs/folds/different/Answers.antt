use Rattle.std.proofs.Common.{◌≡◌, ap, sym, ◌∙◌, append-nil, append_assoc, List, [], ◌∷◌, ◌++◌}
use Rattle.osq_value.specs.declared.value.Value.{Value}
use Rattle.sql_meaning.proofs.folds.different.Goals as goal

pub loop-value-init : goal.loop-value-init
loop-value-init c = ap (λ (values : List Value). values ++ c.into_iter-value-iterator.result) c.new-kept.ensures

pub loop-value-preserved : goal.loop-value-preserved
loop-value-preserved c =
    let rest = c.next.new.self in
    let together : (c.loop-value.kept ++ c.in-Some.value ∷ []) ++ rest ≡ c.loop-value.kept ++ (c.in-Some.value ∷ rest) = append_assoc c.loop-value.kept (c.in-Some.value ∷ []) rest in
    ap (λ (values : List Value). values ++ rest) c.in_ok-push.ensures.ok
    ∙ together
    ∙ ap (λ (values : List Value). c.loop-value.kept ++ values) (sym c.in-Some.ensures.steps)
    ∙ c.loop-value.invariant

pub returns : goal.returns
returns c =
    sym (append-nil c.loop-value.kept)
    ∙ ap (λ (values : List Value). c.loop-value.kept ++ values) (sym c.in-None.ensures.steps.0)
    ∙ c.loop-value.invariant
    ∙ c.into_iter-value-iterator.ensures.into_iter_gives.0 ∙ c.in_ok-value-items.ensures
