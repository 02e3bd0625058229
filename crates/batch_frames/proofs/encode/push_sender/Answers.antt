use Rattle.std.proofs.Common.{◌++◌, codes, ap, ◌∙◌}
use Rattle.std.specs.Fmt.{decimal}
use Rattle.std.proofs.lemmas.Result.{on_ok_weaker}
use Rattle.result_batches.specs.Json.{quoted}
use Rattle.batch_frames.specs.Parts.{sender_part}
use Rattle.batch_frames.proofs.Sequences.{two_behind}
use Rattle.batch_frames.proofs.encode.push_sender.Goals as goal

pub returns : goal.returns
unfolding sender_part
returns c =
    on_ok_weaker c.push_field-2.result
    (λ is. is ∙ ap (λ x. (x ++ codes ",\"number\":") ++ decimal c.args.number) c.in_ok-push_field.ensures
    ∙ two_behind c.args.line.now (codes "{\"frame\":1,\"host\":") (quoted c.args.host.now) (codes ",\"number\":") (decimal c.args.number))
    c.push_field-2.ensures
