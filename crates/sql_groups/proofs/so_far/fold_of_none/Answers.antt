use Rattle.std.proofs.Common.{None, [], false, true, refl, subst, sym}
use Rattle.sql_tree.specs.declared.functions.Fold.{Fold}
use Rattle.sql_groups.specs.declared.items.GroupItem.TheVariants as item
use Rattle.sql_groups.specs.declared.so_far.SoFar.TheVariants as so_far
use Rattle.sql_groups.specs.Folding.{HasFolded, greatest, least}
use Rattle.sql_groups.proofs.Standing.{no-known, no-sum}
use Rattle.sql_groups.proofs.so_far.fold_of_none.Goals as goal

pub returns-in-Count : goal.returns-in-Count
returns-in-Count c = subst (λ (fold : Fold). HasFolded [] (item.Folded fold c.args.place) (so_far.Known c.args.place 0)) (sym c.in-Count.is) (no-known c.args.place)

pub returns-in-Sum : goal.returns-in-Sum
returns-in-Sum c = subst (λ (fold : Fold). HasFolded [] (item.Folded fold c.args.place) (so_far.Sum c.args.place None)) (sym c.in-Sum.is) (no-sum c.args.place)

pub returns-in-Min : goal.returns-in-Min
returns-in-Min c = subst (λ (fold : Fold). HasFolded [] (item.Folded fold c.args.place) (so_far.Nearest c.args.place false None)) (sym c.in-Min.is) (least [] c.args.place None refl)

pub returns-in-Max : goal.returns-in-Max
returns-in-Max c = subst (λ (fold : Fold). HasFolded [] (item.Folded fold c.args.place) (so_far.Nearest c.args.place true None)) (sym c.in-Max.is) (greatest [] c.args.place None refl)
