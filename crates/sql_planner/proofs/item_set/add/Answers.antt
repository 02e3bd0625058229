use Rattle.std.proofs.Common.{◌∙◌, refl, sym}
use Rattle.sql_planner.specs.declared.item_set.ItemSet.{ItemSet}
use Rattle.sql_planner.proofs.Asking.{item-added}
use Rattle.sql_planner.proofs.item_set.add.Goals as goal

pub returns-in_ok-insert : goal.returns-in_ok-insert
returns-in_ok-insert c =
    let new : ItemSet = record { values = c.insert.new.self; has_null = c.args.set.now.has_null } in
    item-added c.args.set.now new c.args.item (sym c.is_null.ensures ∙ c.if-is_null.false) c.in_ok-insert.ensures.keys refl
