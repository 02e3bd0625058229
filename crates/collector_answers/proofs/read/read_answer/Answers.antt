use Rattle.std.proofs.Common.{sym, ◌∙◌}
use Rattle.std.proofs.lemmas.Bool.{both_ways}
use Rattle.std.specs.Cmp.Lexicographic.{bytes_decides}
use Rattle.collector_answers.proofs.Fronts.{nothing_read, read_not, read_so}
use Rattle.collector_answers.proofs.read.read_answer.Goals as goal

pub returns-in_default : goal.returns-in_default
returns-in_default c = nothing_read c.args.line.now (rw c.in_default.is at c.in_ok-answer.ensures)

pub returns-then-eq : goal.returns-then-eq
returns-then-eq c =
    read_so c.args.line.now c.in_ok-answer_line.field-0 c.in-Some.answer (rw c.in-Some.is at c.in_ok-answer.ensures) c.in_ok-answer_line.ensures
    (sym c.as_slice-2.ensures ∙ (bytes_decides _ _).0 (sym c.eq.ensures ∙ c.if-eq.true))

pub returns-else-eq : goal.returns-else-eq
returns-else-eq c =
    read_not c.args.line.now c.in_ok-answer_line.field-0 c.in-Some.answer (rw c.in-Some.is at c.in_ok-answer.ensures) c.in_ok-answer_line.ensures
    (λ same. both_ways c.eq.result c.if-eq.false (c.eq.ensures ∙ (bytes_decides _ _).1 (c.as_slice-2.ensures ∙ same)))
