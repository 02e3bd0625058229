use Rattle.std.proofs.Common.{ℕ, ◌*◌, sym, ap, ◌∙◌, true≢false}
use Rattle.batch_frames.proofs.Judged.{digits_made}
use Rattle.batch_frames.proofs.encode.digits_of.Goals as goal

pub returns : goal.returns
returns c = c.in-Ok.ensures.written ∙ digits_made c.args.digest.now (λ i. (c.type_inv.digest i).fits)

pub unreachable-requires : goal.unreachable-requires
unreachable-requires c = true≢false (sym (c.in-Err.ensures.fits.1 (ap (λ (n : ℕ). 2 * n) (sym c.requires))))
