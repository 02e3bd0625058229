use Rattle.std.proofs.Common.{◌≡◌, IfSome, List, Option, [], map, subst}
use Rattle.osq_value.specs.declared.value.Value.{Value}
use Rattle.sql_query.specs.Exprs.{ExprTree}
use Rattle.sql_query.specs.Resolved.{query_of}
use Rattle.sql_query.specs.View.{expr_of}
use Rattle.sql_meaning.specs.Lent.{values_in}
use Rattle.sql_meaning.specs.Steps.{asked_by, behind_from}
use Rattle.sql_groups.specs.declared.totals.Totals.{Totals}
use Rattle.sql_groups.specs.Totals.{AreTotals}
use Rattle.sql_groups.proofs.steps.row_of_all.Goals as goal

pub returns-in-Some-2 : goal.returns-in-Some-2
returns-in-Some-2 c =
    let condition = map expr_of c.args.condition.now.parts in
    let query = query_of c.args.query.now in
    let begun = subst (λ (o : Option Totals). IfSome o (λ totals. (condition : List ExprTree) → AreTotals (asked_by condition query) [] totals)) c.in-Some.is c.in_ok-totals.ensures in
    let known = c.in_ok-add.ensures c.if-not-branch.false query [] (begun condition) in
    let told = subst (λ (o : Option (List (List Value))). IfSome o (λ made. (condition : List ExprTree) (rows : List (List Value)) → AreTotals (asked_by condition query) rows c.add.new.self → made ≡ behind_from (asked_by condition query) rows)) c.in-Some-2.is c.in_ok-rows.ensures in
    told condition (map values_in c.args.rows.now) known
