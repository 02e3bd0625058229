use Rattle.std.proofs.Common.{arith, subst}
use Rattle.std.proofs.lemmas.List.{take_all}
use Rattle.sql_planner.specs.Pushing.{AreRows}
use Rattle.sql_planner.proofs.Fitting.{rows-more}
use Rattle.sql_planner.proofs.wide.is_wide.Goals as goal

pub loop-at-preserved : goal.loop-at-preserved
loop-at-preserved g c =
    let a = c.loop-at-test.true in
    let b = c.count-at-end.ensures in
    rows-more (g.V.Tables.rows_of c.args.view.now c.args.table.0) c.loop-at.at c.args.width (omega (arith, a, b)) c.row.result c.row.ensures (c.has_width.ensures c.if-not-has_width.false) c.loop-at.invariant

pub returns : goal.returns
returns g c = λ always.
    let a = c.loop-at-test.false in
    let b = c.count-at-end.ensures in
    subst (AreRows c.args.width) (take_all c.loop-at.at (g.V.Tables.rows_of c.args.view.now c.args.table.0) (omega (arith, a, b))) c.loop-at.invariant
