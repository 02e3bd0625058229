use Rattle.std.proofs.Common.{List, arith, map, subst}
use Rattle.std.proofs.lemmas.List.{take_all}
use Rattle.sql_query.specs.declared.query.QuerySource.{QuerySource}
use Rattle.sql_query.specs.Resolved.{source_of}
use Rattle.sql_planner.specs.Pushing.{AreWide}
use Rattle.sql_planner.proofs.Fitting.{wide-more}
use Rattle.sql_planner.proofs.wide.are_wide.Goals as goal

pub loop-source-preserved : goal.loop-source-preserved
loop-source-preserved g c =
    wide-more (g.V.Tables.rows_of c.args.view.now) c.args.sources.now c.loop-source.source-index c.source-item.result (omega (arith, c.loop-source-test.true)) c.source-item.is c.loop-source.invariant c.len.result c.len.ensures (c.is_wide.ensures c.if-not-is_wide.false)

pub returns : goal.returns
returns g c = λ always.
    subst (λ (sources : List QuerySource). AreWide (g.V.Tables.rows_of c.args.view.now) (map source_of sources)) (take_all c.loop-source.source-index c.args.sources.now (omega (arith, c.loop-source-test.false))) c.loop-source.invariant
