use Rattle.std.proofs.Common.{◌≡◌, IfSome, List, Option, map, subst}
use Rattle.osq_value.specs.declared.value.Value.{Value}
use Rattle.sql_query.specs.declared.tree.Expr.{Expr}
use Rattle.sql_query.specs.Resolved.{query_of}
use Rattle.sql_query.specs.View.{expr_of}
use Rattle.sql_meaning.specs.Steps.{result_row, together}
use Rattle.sql_groups.specs.declared.having.GroupTest.{GroupTest}
use Rattle.sql_groups.specs.declared.having.Grouping.{Grouping}
use Rattle.sql_groups.specs.declared.items.GroupItem.{GroupItem}
use Rattle.sql_groups.specs.Having.{HasSides, over_all}
use Rattle.sql_groups.proofs.Keeping.{gives}
use Rattle.sql_groups.proofs.having.grouping_of.Goals as goal

pub returns-then-branch : goal.returns-then-branch
returns-then-branch c = λ rows.
    let query = query_of c.args.query.now in
    let grouping : Grouping = record { items = c.push_sides.new.items; count = c.len-count.result; tests = c.push_sides.new.tests } in
    let told = subst (λ (o : Option (List GroupItem)). IfSome o (λ items. (rows : List (List Value)) → result_row query (together rows) ≡ over_all items rows)) c.in-Some.is c.in_ok-items.ensures in
    gives query grouping c.in-Some.items rows (told rows) c.len-count.ensures
    (subst (λ (tests : List GroupTest). HasSides query.having rows c.in-Some.items tests c.push_sides.new.items c.push_sides.new.tests.items) c.new-tests.ensures.items
    (subst (λ (parts : List Expr). HasSides (map expr_of parts) rows c.in-Some.items c.new-tests.result.items c.push_sides.new.items c.push_sides.new.tests.items) c.as_slice.ensures
    (c.in_ok-push_sides.ensures c.if-branch.true rows)))
