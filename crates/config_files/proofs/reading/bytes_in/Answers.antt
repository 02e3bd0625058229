use Rattle.std.proofs.Common.{Err, ap, ◌∙◌}
use Rattle.config_files.proofs.Unread.{at_path}
use Rattle.config_files.proofs.reading.bytes_in.Goals as goal

pub returns-in-Err-clause-cause : goal.returns-in-Err-clause-cause
returns-in-Err-clause-cause g c =
    at_path c.args.path.now c.in-Err.error _ c.unread.result c.unread.ensures (λ is. c.read.ensures.cause.failed (c.in-Err.is ∙ ap Err is))
