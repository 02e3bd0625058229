use Rattle.std.proofs.Common.{◌≡◌, ◌∙◌, IfSome, List, Option, ap, subst, arith}
use Rattle.std.proofs.lemmas.List.{take_all}
use Rattle.osq_value.specs.declared.value.Value.{Value}
use Rattle.sql_query.specs.declared.tree.Expr.{Expr}
use Rattle.sql_query.specs.View.{expr_of, exprs_of}
use Rattle.sql_scalar.specs.Comparison.{in_of}
use Rattle.sql_scalar.specs.Truth.{truth_of}
use Rattle.sql_meaning.specs.Expressions.{alone, value_of, values_of}
use Rattle.sql_planner.proofs.Asking.{item-then}
use Rattle.sql_planner.proofs.item_set.item_set.Goals as goal

pub loop-item-preserved : goal.loop-item-preserved
loop-item-preserved c =
    let worth = subst (λ (o : Option Value). IfSome o (λ value. (row : List Value) → value_of (alone row) (expr_of c.item-item.result) ≡ value)) c.in-Some.is c.in_ok-value.ensures.worth in
    item-then c.args.affinity c.args.items.now c.loop-item.item-index c.item-item.result c.loop-item.set c.add.new.set c.in-Some.value c.in_ok-turn.field-0
    (omega (arith, c.loop-item-test.true)) c.item-item.is worth c.in_ok-turn.ensures c.in_ok-add.ensures c.loop-item.invariant

pub returns : goal.returns
returns c = λ row value.
    c.loop-item.invariant row value
    ∙ ap (λ (items : List Expr). truth_of (in_of c.args.affinity value (values_of (alone row) (exprs_of items)))) (take_all c.loop-item.item-index c.args.items.now (let h = c.loop-item-test.false in omega (arith, h)))
