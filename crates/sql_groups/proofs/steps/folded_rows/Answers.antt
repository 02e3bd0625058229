use Rattle.std.proofs.Common.{◌≡◌, ◌∙◌, ◌<◌, IfSome, List, Option, Vec, ap, ap₂, drop, filter, map, subst, sym, take}
use Rattle.std.proofs.lemmas.Result.{IfOk-weaker}
use Rattle.std.proofs.lemmas.List.{length-map}
use Rattle.osq_value.specs.declared.value.Value.{Value}
use Rattle.sql_query.specs.declared.tree.Expr.{Expr}
use Rattle.sql_query.specs.Resolved.{query_of}
use Rattle.sql_query.specs.View.{expr_of}
use Rattle.sql_meaning.specs.declared.worth.Worth.{Worth}
use Rattle.sql_meaning.specs.Finished.{finished}
use Rattle.sql_meaning.specs.Steps.{asked_by}
use Rattle.sql_meaning.specs.Worths.{worths}
use Rattle.sql_groups.specs.declared.having.GroupTest.{GroupTest}
use Rattle.sql_groups.specs.declared.items.GroupItem.{GroupItem}
use Rattle.sql_groups.specs.declared.so_far.SoFar.{SoFar}
use Rattle.sql_groups.specs.Folding.{lists_by}
use Rattle.sql_groups.specs.Grouping.{IsFolded}
use Rattle.sql_groups.specs.Having.{over_all, tests_hold}
use Rattle.sql_groups.specs.Keys.{row_values}
use Rattle.sql_groups.proofs.Keeping.{asks, kept-mean}
use Rattle.sql_groups.proofs.steps.folded_rows.Goals as goal

pub returns : goal.returns
returns c =
    let condition = map expr_of c.args.condition.now.parts in
    let query = asked_by condition (query_of c.args.query.now) in
    let grouping = c.args.grouping.now in
    let n = grouping.count in
    let gathered = lists_by (row_values query.keys) condition c.args.rows.now in
    let items = c.as_slice-items.result.now in
    let groups = c.as_slice-2.result.now in
    let tests = c.as_slice-tests.result.now in
    let folded : IsFolded items gathered groups =
    subst (IsFolded items gathered) (sym c.as_slice-2.ensures.value)
    (subst (λ (keys : List Expr). IsFolded items (lists_by (row_values (map expr_of keys)) condition c.args.rows.now) c.in-Some.groups.items) c.as_slice.ensures
    (subst (λ (o : Option (Vec (List SoFar) _)). IfSome o (λ groups. IsFolded items (lists_by (row_values (map expr_of c.as_slice.result.now)) condition c.args.rows.now) groups.items)) c.in-Some.is c.in_ok-groups.ensures)) in
    let made = subst (λ (o : Option (List (List Worth))). IfSome o (λ rows. (items : List GroupItem) (lists : List (List (List Value))) → IsFolded items lists groups → map worths rows ≡ map (take n) (filter (λ values. tests_hold tests (drop n values)) (map (over_all items) lists)))) c.in-Some-2.is c.in_ok-kept_rows.ensures in
    IfOk-weaker c.finished.result _ _
    (λ rows is. is
    ∙ ap (finished query)
    (made items gathered folded
    ∙ ap₂ (λ (ts : List GroupTest) (some : List GroupItem). map (take n) (filter (λ values. tests_hold ts (drop n values)) (map (over_all some) gathered))) c.as_slice-tests.ensures.value c.as_slice-items.ensures)
    ∙ kept-mean query grouping (asks condition (query_of c.args.query.now) grouping c.requires.grouping) c.requires.grouped (subst (λ n. 0 < n) (sym (length-map c.args.query.now.keys expr_of)) c.requires.keyed) c.args.rows.now)
    c.finished.ensures
