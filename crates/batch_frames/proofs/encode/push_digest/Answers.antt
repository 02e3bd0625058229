use Rattle.std.proofs.Common.{refl}
use Rattle.std.proofs.lemmas.Result.{on_ok_weaker}
use Rattle.batch_frames.proofs.Digits.{digest_added}
use Rattle.batch_frames.proofs.Judged.{all_small}
use Rattle.batch_frames.proofs.encode.push_digest.Goals as goal

pub returns : goal.returns
returns c =
    on_ok_weaker c.extend-3.result
    (λ is. digest_added c.args.line.now _ _ _ _ _ _ c.args.digest.now c.in_ok-extend.ensures.ok c.in_ok-extend-2.ensures.ok is c.digits_of-digits.ensures (all_small c.args.digest.now (λ i. (c.type_inv.digest i).fits)) refl refl)
    c.extend-3.ensures.ok
