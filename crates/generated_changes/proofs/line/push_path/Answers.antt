use Rattle.std.proofs.Common.{append_assoc, codes}
use Rattle.generated_changes.proofs.line.push_path.Goals as goal

pub returns : goal.returns
returns c = rw (c.in_ok-push_number.ensures, c.in_ok-extend.ensures.ok, c.file_of.ensures) (append_assoc c.args.lines.now (codes "{\"path\":\"/etc/f") _)
