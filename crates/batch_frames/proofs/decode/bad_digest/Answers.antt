use Rattle.std.proofs.Common.{sym, ◌∙◌}
use Rattle.std.proofs.lemmas.Bool.{both_ways}
use Rattle.std.specs.Cmp.Lexicographic.{bytes_decides}
use Rattle.batch_frames.proofs.decode.bad_digest.Goals as goal

pub returns-then-eq : goal.returns-then-eq
returns-then-eq c =
    sym (c.as_bytes.ensures.value ∙ c.as_str.ensures) ∙ (bytes_decides _ _).0 (sym c.eq.ensures ∙ c.if-eq.true) ∙ (c.as_slice.ensures ∙ c.in_ok-digits.ensures)

pub returns-else-eq : goal.returns-else-eq
returns-else-eq c = λ same.
    both_ways c.eq.result c.if-eq.false
    (c.eq.ensures ∙ (bytes_decides _ _).1 ((c.as_bytes.ensures.value ∙ c.as_str.ensures) ∙ same ∙ sym (c.as_slice.ensures ∙ c.in_ok-digits.ensures)))
