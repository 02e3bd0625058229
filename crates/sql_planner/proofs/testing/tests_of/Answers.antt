use Rattle.std.proofs.Common.{◌∙◌, List, ap, map, arith}
use Rattle.std.proofs.lemmas.List.{take_all}
use Rattle.sql_query.specs.declared.tree.Expr.{Expr}
use Rattle.sql_query.specs.View.{expr_of}
use Rattle.sql_meaning.specs.Expressions.{alone, holds}
use Rattle.sql_planner.proofs.Asking.{part-then}
use Rattle.sql_planner.proofs.OneTable.{parts-more}
use Rattle.sql_planner.proofs.testing.tests_of.Goals as goal

pub loop-part-preserved : goal.loop-part-preserved
loop-part-preserved c =
    part-then c.args.parts.now c.loop-part.part-index c.part-item.result c.loop-part.lists c.push.new.self c.in_ok-tests_for.field-0
    (parts-more c.args.parts.now c.loop-part.part-index c.part-item.result (omega (arith, c.loop-part-test.true)) c.part-item.is) c.in_ok-push.ensures.ok c.in_ok-tests_for.ensures c.loop-part.invariant

pub returns : goal.returns
returns c = λ row.
    c.loop-part.invariant row
    ∙ ap (λ (parts : List Expr). holds (alone row) (map expr_of parts)) (take_all c.loop-part.part-index c.args.parts.now (let h = c.loop-part-test.false in omega (arith, h)))
