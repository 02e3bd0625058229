use Rattle.std.proofs.Common.{◌-◌, List, drop, length, map, subst, sym, take}
use Rattle.std.proofs.lemmas.Result.{IfOk-weaker}
use Rattle.sql_query.specs.declared.tree.Expr.{Expr}
use Rattle.sql_query.specs.Exprs.{ExprTree}
use Rattle.sql_query.specs.View.{expr_of}
use Rattle.sql_groups.specs.Having.{HasSides}
use Rattle.sql_groups.proofs.Keeping.{first-part, no-parts, no-sides, one-side}
use Rattle.sql_groups.proofs.having.+push_sides.Goals as goal

pub returns-in_default : goal.returns-in_default
returns-in_default t c = λ h rows.
    subst (λ (parts : List Expr). HasSides (map expr_of parts) rows c.args.items.now c.args.tests.now.items c.args.items.now c.args.tests.now.items)
    (sym (no-parts c.args.parts.now c.in_default.len_below)) (no-sides rows c.args.items.now c.args.tests.now.items)

pub returns-then-branch : goal.returns-then-branch
returns-then-branch t c =
    let part = c.part-item.result in
    let others = map expr_of (take (length c.args.parts.now - 1) (drop 1 c.args.parts.now)) in
    IfOk-weaker c.push_sides.result _ _
    (λ pushed has h rows.
    subst (λ (parts : List ExprTree). HasSides parts rows c.args.items.now c.args.tests.now.items c.push_sides.new.items c.push_sides.new.tests.items)
    (first-part c.args.parts.now part c.in-len1-up.len_at_least c.part-item.is)
    (one-side (expr_of part) others rows c.args.items.now c.push_test.new.items c.push_sides.new.items c.args.tests.now.items c.push_test.new.tests.items c.push_sides.new.tests.items
    (c.in_ok-push_test.ensures c.if-branch.true rows) (has h rows)))
    c.push_sides.ensures
