use Rattle.std.proofs.Common.{List, map, subst}
use Rattle.std.proofs.lemmas.Option.{IfSome_then}
use Rattle.std.proofs.lemmas.Result.{IfOk-weaker}
use Rattle.osq_value.specs.declared.value.Value.{Value}
use Rattle.sql_query.specs.View.{expr_of}
use Rattle.sql_groups.specs.Grouping.{IsFolded}
use Rattle.sql_groups.proofs.Keeping.{column-lists}
use Rattle.sql_groups.proofs.steps.folded_groups.Goals as goal

pub returns-in-Some : goal.returns-in-Some
returns-in-Some c =
    let condition = map expr_of c.args.condition.now.parts in
    let keys = map expr_of c.args.keys.now in
    IfOk-weaker c.groups_by_column.result _ _
    (λ found told. IfSome_then found told
    (λ groups folded. subst (λ (ls : List (List (List Value))). IsFolded c.args.items.now ls groups.items) (column-lists c.in-Some.place keys condition c.args.rows.now c.in-Some.ensures) folded))
    c.groups_by_column.ensures
