use Rattle.std.proofs.Common.{List, [], ◌∷◌, ◌++◌, take, sym, subst, ap, ◌∙◌}
use Rattle.std.proofs.lemmas.Bool.{false≢true}
use Rattle.std.proofs.lemmas.List.{take_more, take_all}
use Rattle.std.specs.Option.{option_copied}
use Rattle.osq_value.specs.declared.reading.Category.{Category}
use Rattle.change_records.specs.Events.{FindsCategory}
use Rattle.change_records.proofs.FirstCategory.{keep, change}
use Rattle.change_records.proofs.event.category_of.Goals as goal
use Rattle.change_records.proofs.event.category_of.Goals.{then-is_before+then-takes, else-is_before, else-is_before-via-then-is_before+else-takes, else-is_before-via-else-is_before}

pub loop-category-preserved : goal.loop-category-preserved
loop-category-preserved c =
    let path = c.args.path.now in
    let all = c.args.categories.now in
    let next = c.category-item.result in
    let front = take c.loop-category.category-index all in
    let found = option_copied c.loop-category.first in
    let more = take_more all c.loop-category.category-index next c.loop-category-test.true ∙ ap (λ (x : Category). front ++ x ∷ []) (sym c.category-item.is) in
    subst (λ (cs : List Category). FindsCategory path cs (option_copied c.if-is_before.first)) (sym more)
    (elim c.if-is_before.branch [
      | then-is_before+then-takes w ↦
          subst (λ o. FindsCategory path (front ++ next ∷ []) (option_copied o)) (sym w.first-is)
          (change path front next found c.loop-category.invariant (w.takes.ensures.0 w.if-takes.true) (c.is_before.ensures.0 w.if-is_before.true))
      | else-is_before w ↦
          subst (λ o. FindsCategory path (front ++ next ∷ []) (option_copied o)) (sym w.first-is)
          (keep path front next found c.loop-category.invariant
          (elim w.else-is_before.branch [
            | else-is_before-via-then-is_before+else-takes v ↦ λ taken before. false≢true (sym v.if-takes.false ∙ v.takes.ensures.1 taken)
            | else-is_before-via-else-is_before v ↦ λ taken before. false≢true (sym v.if-is_before.false ∙ c.is_before.ensures.1 before)
          ]))
    ])

pub returns : goal.returns
returns c =
    subst (λ (cs : List Category). FindsCategory c.args.path.now cs (option_copied c.loop-category.first))
    (take_all c.loop-category.category-index c.args.categories.now c.loop-category-test.false) c.loop-category.invariant
