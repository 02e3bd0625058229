use Rattle.std.proofs.Common.{append_assoc, codes}
use Rattle.generated_changes.proofs.line.push_action.Goals as goal

pub returns : goal.returns
returns c = rw (c.in_ok-extend-2.ensures.ok, c.in_ok-extend.ensures.ok, c.as_bytes.ensures.value, c.action_of.ensures) (append_assoc c.args.lines.now (codes "\",\"action\":\"") _)
