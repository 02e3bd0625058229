use Rattle.std.proofs.Common.{List, ℕ, ◌++◌, None, ◌∙◌, codes, refl}
use Rattle.std.specs.Fmt.{decimal}
use Rattle.batch_frames.specs.Ends.{BeginsWithEnd}
use Rattle.collector_answers.specs.Fields.{TakesTold}
use Rattle.collector_answers.specs.Lines.{conflict_line, front_of}
use Rattle.collector_answers.proofs.Told.{conflict_same, none_some, told_and, told_is, told_parts}
use Rattle.collector_answers.proofs.read.conflict.Goals as goal

ends : (kept found : List ℕ) → BeginsWithEnd (conflict_line kept found)
unfolding conflict_line
ends kept found = refl

pub returns-in_default : goal.returns-in_default
returns-in_default c = λ host kept found number recorded held one other is.
    let none : TakesTold c.args.line.now (front_of (codes "conflict")) None = rw c.in_default.is at c.in_ok-told.ensures in
    none_some _ (none.is host (decimal recorded ++ conflict_line kept found) number held.text held.numbered (is ∙ told_is (front_of (codes "conflict")) host (conflict_line kept found) number recorded))

pub returns-in_default-digests : goal.returns-in_default-digests
returns-in_default-digests c = λ host kept found number recorded held one other is.
    let some : TakesTold c.args.line.now (front_of (codes "conflict")) (told_and c.in-Some.told.host c.in-Some.told.number c.in-Some.rest.now) = rw c.in-Some.is at c.in_ok-told.ensures in
    let parts =
    told_parts c.in-Some.told.host host c.in-Some.told.number number c.in-Some.rest.now (decimal recorded ++ conflict_line kept found)
    (some.is host (decimal recorded ++ conflict_line kept found) number held.text held.numbered (is ∙ told_is (front_of (codes "conflict")) host (conflict_line kept found) number recorded)) in
    let count = c.in_ok-recorded.ensures recorded (conflict_line kept found) held.counted (ends kept found) parts.rest_is in
    none_some _ (c.in_default-digests.ensures kept found one other count.1)

pub returns : goal.returns
returns c = λ host kept found number recorded held one other is.
    let some : TakesTold c.args.line.now (front_of (codes "conflict")) (told_and c.in-Some.told.host c.in-Some.told.number c.in-Some.rest.now) = rw c.in-Some.is at c.in_ok-told.ensures in
    let parts =
    told_parts c.in-Some.told.host host c.in-Some.told.number number c.in-Some.rest.now (decimal recorded ++ conflict_line kept found)
    (some.is host (decimal recorded ++ conflict_line kept found) number held.text held.numbered (is ∙ told_is (front_of (codes "conflict")) host (conflict_line kept found) number recorded)) in
    let count = c.in_ok-recorded.ensures recorded (conflict_line kept found) held.counted (ends kept found) parts.rest_is in
    let told = c.in-Some.told in
    let read = c.in-Some-digests.both in
    conflict_same told.host host told.number number c.in_ok-recorded.recorded recorded read.0 kept read.1 found parts.host_is parts.number_is count.0 (c.in-Some-digests.ensures kept found one other count.1)
