-- A line gives a host one mark.
use Rattle.std.proofs.Common.{◌≡◌, ℕ, List, Option, Some, None, sym, ap, ◌∙◌}
use Rattle.std.specs.Prelude.{IfSome, option_and_then}
use Rattle.collector_answers.specs.declared.answer.Answer.{Answer}
use Rattle.collector_answers.specs.Reads.{IsHeld, Reads}
use Rattle.batch_forwarder.specs.Polling.{mark_of}
use Rattle.batch_forwarder.specs.Laws.{MarksAreOne}

same_answer : (line : List ℕ) (one other : Option Answer) → Reads line one → IfSome one IsHeld → Reads line other → IfSome other IsHeld → one ≡ other
same_answer line None None none held other kept = λ i. None
same_answer line None (Some answer) none held other kept = absurd (none answer kept other.0)
same_answer line (Some answer) None reads held none kept = absurd (none answer held reads.0)
same_answer line (Some answer) (Some other) reads held again kept = reads.1 other kept again.0

pub marks_are_one : MarksAreOne
marks_are_one host line one other first second =
    first.is ∙ ap (option_and_then (mark_of host)) (same_answer line first.answer second.answer first.reads first.held second.reads second.held) ∙ sym second.is
