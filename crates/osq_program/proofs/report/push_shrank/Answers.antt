use Rattle.std.proofs.Common.{refl}
use Rattle.osq_program.proofs.Pushed.{pushed_two}
use Rattle.osq_program.proofs.report.push_shrank.Goals as goal

pub returns : goal.returns
returns c =
    let old = c.args.line.now in
    let source = pushed_two old _ _ _ _ refl c.in_ok-push_named.ensures in
    let kept = pushed_two old _ _ _ _ (pushed_two old _ _ _ _ source refl) c.in_ok-push_field.ensures in
    let found = pushed_two old _ _ _ _ (pushed_two old _ _ _ _ kept refl) c.in_ok-push_field-2.ensures in
    pushed_two old _ _ _ _ found c.in_ok-extend.ensures.ok
