use Rattle.std.proofs.Common.{◌≡◌, ◌++◌, List, map, take}
use Rattle.osq_value.specs.declared.value.Value.{Value}
use Rattle.sql_query.specs.Resolved.{OrderTree, ResultTree, order_of, result_of}
use Rattle.sql_meaning.specs.Expressions.{value_of}
use Rattle.sql_meaning.specs.Steps.{together}
use Rattle.sql_groups.specs.Folding.{item_over}
use Rattle.sql_groups.proofs.items.group_items.Given as goal

abbrev pub invariant-loop-item : goal.invariant-loop-item
invariant-loop-item l =
    (rows : List (List Value)) → map (λ item. item_over item rows) l.items ≡ map (λ (item : ResultTree). value_of (together rows) item.expr) (map result_of (take l.item-index l.query.items))

abbrev pub invariant-loop-term : goal.invariant-loop-term
invariant-loop-term l =
    (rows : List (List Value)) → map (λ item. item_over item rows) l.items
    ≡ map (λ (item : ResultTree). value_of (together rows) item.expr) (map result_of l.query.items) ++ map (λ (term : OrderTree). value_of (together rows) term.expr) (map order_of (take l.term-index l.query.terms))
