use Rattle.std.proofs.Common.{[], refl, subst, sym}
use Rattle.sql_groups.specs.declared.items.GroupItem.{GroupItem}
use Rattle.sql_groups.specs.declared.so_far.SoFar.TheVariants as so_far
use Rattle.sql_groups.specs.Folding.{HasFolded, counted}
use Rattle.sql_groups.proofs.so_far.SoFar.without_rows.Goals as goal

pub returns-in-Rows : goal.returns-in-Rows
returns-in-Rows c = subst (λ (item : GroupItem). HasFolded [] item (so_far.Rows 0)) (sym c.in-Rows.is) (counted [] 0 refl)
