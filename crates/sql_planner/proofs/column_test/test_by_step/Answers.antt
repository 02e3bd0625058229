use Rattle.std.proofs.Common.{ap, ap₂, ◌∙◌}
use Rattle.sql_query.specs.Exprs.{binary, chain, no_steps, then}
use Rattle.sql_query.specs.View.{expr_of}
use Rattle.sql_planner.proofs.Columns.{column-is}
use Rattle.sql_planner.proofs.column_test.test_by_step.Goals as goal

pub returns : goal.returns
returns c =
    let place = c.in-Some.place in
    let first = column-is (expr_of c.args.first.now) place c.in-Some.ensures in
    let step = c.in-Some-binary.ensures ∙ ap (binary c.in-Some-binary.op) c.in-Some-literal.ensures in
    (place.source, place.column, ap₂ (λ e s. chain e (then no_steps s)) first step)
