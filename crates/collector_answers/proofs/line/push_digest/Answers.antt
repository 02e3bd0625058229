use Rattle.std.proofs.Common.{List, ℕ, ◌++◌, ap, ◌∙◌}
use Rattle.std.proofs.lemmas.Result.{on_ok_weaker}
use Rattle.result_batches.specs.Json.{quoted}
use Rattle.batch_frames.proofs.Judged.{digits_made}
use Rattle.collector_answers.proofs.line.push_digest.Goals as goal

pub returns : goal.returns
returns c =
    on_ok_weaker c.push_quoted.result
    (λ is. is ∙ ap (λ (l : List ℕ). l ++ quoted c.as_bytes-2.result.now) c.in_ok-extend.ensures.ok
    ∙ ap (λ (f : List ℕ). (c.args.line.now ++ f) ++ quoted c.as_bytes-2.result.now) c.as_bytes.ensures.value
    ∙ ap (λ (d : List ℕ). (c.args.line.now ++ c.args.front.now) ++ quoted d) (c.as_bytes-2.ensures.value ∙ c.in_ok-digits.ensures ∙ digits_made c.args.digest.now (λ i. (c.type_inv.digest i).fits)))
    c.push_quoted.ensures
