use Rattle.std.proofs.Common.{List, ap, subst, sym, ◌∙◌, ◌+◌, ◌++◌, ◌∷◌, [], take}
use Rattle.std.specs.List.{AllZip}
use Rattle.std.proofs.lemmas.List.{take_more}
use Rattle.sql_groups.specs.declared.items.GroupItem.{GroupItem}
use Rattle.sql_groups.specs.declared.so_far.SoFar.{SoFar}
use Rattle.sql_groups.specs.Folding.{HasFolded}
use Rattle.sql_groups.proofs.Zipped.{zip-push}
use Rattle.sql_groups.proofs.grouped.no_rows.Goals as goal

pub loop-item-preserved : goal.loop-item-preserved
loop-item-preserved c =
    let items = c.args.items.now in
    let at = c.loop-item.item-index in
    let R = HasFolded [] in
    subst (λ (group : List SoFar). AllZip R (take (at + 1) items) group) (sym c.in_ok-push.ensures.ok)
    (subst (λ (some : List GroupItem). AllZip R some (c.loop-item.group ++ c.in-Some.so_far ∷ [])) (sym (take_more items at c.item-item.result c.loop-item-test.true ∙ ap (λ (item : GroupItem). take at items ++ item ∷ []) (sym c.item-item.is)))
    (zip-push R (take at items) c.loop-item.group _ c.in-Some.so_far c.loop-item.invariant c.in-Some.ensures))
