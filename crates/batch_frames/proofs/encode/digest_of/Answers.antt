use Rattle.std.proofs.Common.{ap, ◌∙◌}
use Rattle.sha2.specs.Sha256.{sha256}
use Rattle.batch_frames.proofs.Judged.{digest_is}
use Rattle.batch_frames.proofs.encode.digest_of.Goals as goal

pub returns : goal.returns
returns c = c.digest.ensures ∙ ap sha256 c.as_slice-2.ensures ∙ digest_is c.args.frame.now c.in_ok-body_of.field-0 c.in_ok-body_of.ensures
