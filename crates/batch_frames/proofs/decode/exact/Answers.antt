use Rattle.std.proofs.Common.{◌∙◌}
use Rattle.std.proofs.lemmas.Bool.{both_ways}
use Rattle.std.specs.Cmp.Lexicographic.{bytes_decides}
use Rattle.batch_frames.proofs.Judged.{other_text}
use Rattle.batch_frames.proofs.decode.exact.Goals as goal

pub returns-else-eq : goal.returns-else-eq
returns-else-eq c =
    other_text c.args.line.now c.in_ok-text.text c.in_ok-frame.frame c.in_ok-frame.ensures c.in_ok-text.ensures.0
    (λ same. both_ways c.eq.result c.if-eq.false (c.eq.ensures ∙ (bytes_decides _ _).1 (c.as_slice.ensures ∙ same)))
