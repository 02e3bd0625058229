use Rattle.std.proofs.Common.{length, ap, ◌∙◌}
use Rattle.sha2.specs.Sha256.{sha256}
use Rattle.sha2.proofs.Facts256.{length-sha256}
use Rattle.result_batches.specs.Frames.{hexadecimal}
use Rattle.batch_frames.proofs.Judged.{digest_is}
use Rattle.batch_frames.proofs.encode.digits_in_text.Goals as goal

pub digits_of-requires : goal.digits_of-requires
digits_of-requires c = ap length c.digest.ensures ∙ length-sha256 _

pub returns : goal.returns
returns c = c.digits_of.ensures ∙ ap hexadecimal (c.digest.ensures ∙ ap sha256 c.as_slice.ensures ∙ digest_is c.args.frame.now c.in_ok-body.body c.in_ok-body.ensures)
