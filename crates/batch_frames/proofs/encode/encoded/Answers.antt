use Rattle.std.proofs.Common.{length, ap, ◌∙◌}
use Rattle.sha2.specs.Sha256.{sha256}
use Rattle.sha2.proofs.Facts256.{length-sha256}
use Rattle.batch_frames.proofs.Judged.{text_made}
use Rattle.batch_frames.proofs.encode.encoded.Goals as goal

pub push_digest-requires : goal.push_digest-requires
push_digest-requires c = ap length c.digest-digest.ensures ∙ length-sha256 _

pub returns : goal.returns
returns c = text_made c.args.frame.now c.in_ok-text.text c.digest-digest.result c.push_digest.new.line c.in_ok-text.ensures (c.digest-digest.ensures ∙ ap sha256 c.as_slice.ensures) c.in_ok-push_digest.ensures
