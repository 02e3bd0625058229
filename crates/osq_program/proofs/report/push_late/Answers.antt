use Rattle.std.proofs.Common.{◌∙◌, append_assoc}
use Rattle.osq_program.proofs.Pushed.{pushed_two}
use Rattle.osq_program.proofs.report.push_late.Goals as goal

pub returns : goal.returns
returns c = pushed_two c.args.line.now _ _ _ _ (c.in_ok-push_field.ensures ∙ append_assoc c.args.line.now _ _) c.in_ok-extend.ensures.ok
