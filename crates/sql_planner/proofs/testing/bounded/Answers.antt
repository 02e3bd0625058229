use Rattle.std.proofs.Common.{◌≡◌, IfSome, List, None, Option, subst}
use Rattle.osq_value.specs.declared.value.Value.{Value}
use Rattle.sql_query.specs.View.{expr_of}
use Rattle.sql_meaning.specs.Expressions.{affinity_of, alone, value_of}
use Rattle.sql_planner.proofs.Asking.{bounded-is}
use Rattle.sql_planner.proofs.testing.bounded.Goals as goal

pub returns : goal.returns
returns c = λ row value.
    let low = expr_of c.args.low.now in
    let high = expr_of c.args.high.now in
    let bare-low = subst (λ (o : Option Value). IfSome o (λ value. affinity_of low ≡ None)) c.in-Some.is c.in_ok-least.ensures.bare in
    let bare-high = subst (λ (o : Option Value). IfSome o (λ value. affinity_of high ≡ None)) c.in-Some-2.is c.in_ok-most.ensures.bare in
    let low-is = subst (λ (o : Option Value). IfSome o (λ value. (row : List Value) → value_of (alone row) low ≡ value)) c.in-Some.is c.in_ok-least.ensures.worth in
    let high-is = subst (λ (o : Option Value). IfSome o (λ value. (row : List Value) → value_of (alone row) high ≡ value)) c.in-Some-2.is c.in_ok-most.ensures.worth in
    bounded-is c.args.is_negated c.args.affinity low high c.in-Some.least c.in-Some-2.most c.in_ok-low.low c.in_ok-high.high c.in_ok-low.ensures c.in_ok-high.ensures bare-low bare-high low-is high-is row value
