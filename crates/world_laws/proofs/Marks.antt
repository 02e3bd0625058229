-- What a host acknowledges is recorded.
use Rattle.std.proofs.Common.{◌≡◌, ◌∙◌, ℕ, ◌≤◌, Bool, true, false, List, [], ◌∷◌, ◌++◌, length, length-append, map, bytes_eq, Option, Some, None, ap, refl, sym, subst, arith}
use Rattle.std.specs.Prelude.{IfSome, if◌then◌else◌, nat_le, nat_lt, option_and_then, ◌&&◌}
use Rattle.std.specs.List.{AllByRecursion}
use Rattle.std.proofs.lemmas.Slice.Eq.{bytes_eq-Decides}
use Rattle.entry_model.specs.declared.entry.Entry.TheVariants.{Acked}
use Rattle.entry_model.specs.Values.{acked_upto, commits}
use Rattle.session_model.specs.Working.{marks_beyond}
use Rattle.batch_forwarder.specs.Polling.{AreMarks, IsMark, mark_if, mark_of}
use Rattle.collector_core.specs.declared.receipt.Receipt.{Receipt}
use Rattle.collector_core.specs.declared.receipt.Receipt.TheVariants.{Conflict, Gap, Recorded, Repeat}
use Rattle.collector_core.specs.Received.{HostDigests, received}
use Rattle.collector_core.proofs.Receiving.{stays}
use Rattle.collector_answers.specs.declared.answer.Answer.{Answer}
use Rattle.collector_answers.specs.declared.judging.Judged.{Judged}
use Rattle.collector_answers.specs.declared.judging.Judged.TheVariants.{Bad, Framed}
use Rattle.collector_answers.specs.Lines.{line_of}
use Rattle.collector_answers.specs.Reads.{IsHeld, Reads}
use Rattle.collect_rounds.specs.Collecting.{after_line, after_lines, answer_by, answer_in, receipt_in}
use Rattle.collect_rounds.proofs.Alike.{after-append}
use Rattle.world_laws.specs.Answered.{AcksWithin, WasAnswered}
use Rattle.world_laws.specs.Laws.{MarksAreRecorded}

-- a mark of no more than so many, where there is one
abbrev Within : ℕ → Option ℕ → Type 0
Within most mark = IfSome mark (λ upto. upto ≤ most)

within_more : (less most : ℕ) (mark : Option ℕ) → less ≤ most → Within less mark → Within most mark
within_more less most None more within = tt
within_more less most (Some upto) more within = let known : upto ≤ less = within in omega (arith, more, known)

-- ---- what is recorded grows

longer_by : (xs ys zs : List (List ℕ)) → zs ≡ xs ++ ys → length xs ≤ length zs
longer_by xs ys zs e = let size = ap length e in let parts = length-append xs ys in omega (arith, size, parts)

at_most : (m n : ℕ) → m ≡ n → m ≤ n
at_most m n e = omega (arith, e)

through : (k m n : ℕ) → k ≤ m → m ≤ n → k ≤ n
through k m n one other = omega (arith, one, other)

line_grows : (recorded : HostDigests) (one : Judged) (host : List ℕ) → length (recorded host) ≤ length (after_line recorded one host)
line_grows recorded (Framed frame digest) host =
    let added = stays recorded (frame ∷ []) host in longer_by (recorded host) added.0 (received recorded frame host) added.1
line_grows recorded (Bad kind) host = at_most (length (recorded host)) (length (recorded host)) refl

lines_grow : (recorded : HostDigests) (judged : List Judged) (host : List ℕ) → length (recorded host) ≤ length (after_lines recorded judged host)
lines_grow recorded [] host = at_most (length (recorded host)) (length (recorded host)) refl
lines_grow recorded (one ∷ judged) host =
    through (length (recorded host)) (length (after_line recorded one host)) (length (after_lines (after_line recorded one) judged host)) (line_grows recorded one host)
    (lines_grow (after_line recorded one) judged host)

-- ---- what an answer tells

-- whatever becomes of a frame, its answer tells its host how many are recorded
told_of : (host own : List ℕ) (number recorded : ℕ) (receipt : Receipt) → mark_of host (answer_by own number recorded receipt) ≡ mark_if host own recorded
told_of host own number recorded Recorded = refl
told_of host own number recorded Repeat = refl
told_of host own number recorded (Gap behind) = refl
told_of host own number recorded (Conflict at kept found) = refl

own_count : (host own : List ℕ) (after : HostDigests) → Within (length (after host)) (mark_if host own (length (after own)))
own_count host own after = by (bytes_eq own host) refl
  where
    by : (t : Bool) → bytes_eq own host ≡ t → Within (length (after host)) (if t then Some (length (after own)) else None)
    by true e = at_most (length (after own)) (length (after host)) (ap (λ (h : List ℕ). length (after h)) ((bytes_eq-Decides own host).0 e))
    by false e = tt

told_within : (host : List ℕ) (recorded : HostDigests) (one : Judged) → Within (length (after_line recorded one host)) (mark_of host (answer_in recorded one))
told_within host recorded (Framed frame digest) =
    subst (Within (length (received recorded frame host)))
    (sym (told_of host frame.host frame.batch.number (length (received recorded frame frame.host)) (receipt_in recorded frame)))
    (own_count host frame.host (received recorded frame))
told_within host recorded (Bad kind) = tt

-- the answer whose text a line is
read_is : (line : List ℕ) (given : Answer) (answer : Option Answer) → Reads line answer → IsHeld given → line ≡ line_of given → answer ≡ Some given
read_is line given None none held is = absurd (none given held is)
read_is line given (Some answer) reads held is = reads.1 given held is

mark_within : (host : List ℕ) (recorded : HostDigests) (judged : List Judged) (line : List ℕ) (mark : Option ℕ) → WasAnswered recorded judged line → IsMark host line mark
    → Within (length (after_lines recorded judged host)) mark
mark_within host recorded judged line mark answered marks =
    let earlier : HostDigests = after_lines recorded answered.before in
    let given : Answer = answer_in earlier answered.one in
    let is : mark ≡ mark_of host given = marks.is ∙ ap (option_and_then (mark_of host)) (read_is line given marks.answer marks.reads answered.held answered.is) in
    let whole : after_lines recorded judged host ≡ after_lines (after_line earlier answered.one) answered.after host =
    ap (λ (all : List Judged). after_lines recorded all host) (sym answered.are) ∙ after-append recorded answered.before (answered.one ∷ answered.after) host in
    let grows = lines_grow (after_line earlier answered.one) answered.after host in
    within_more (length (after_line earlier answered.one host)) (length (after_lines recorded judged host)) mark (subst (λ (digests : List (List ℕ)). length (after_line earlier answered.one host) ≤ length digests) (sym whole) grows)
    (subst (Within (length (after_line earlier answered.one host))) (sym is) (told_within host earlier answered.one))

all_within : (host : List ℕ) (recorded : HostDigests) (judged : List Judged) (lines : List (List ℕ)) (polled : List (Option ℕ)) → AllByRecursion (WasAnswered recorded judged) lines
    → AreMarks host lines polled → AllByRecursion (Within (length (after_lines recorded judged host))) polled
all_within host recorded judged [] [] answered are = tt
all_within host recorded judged [] (mark ∷ polled) answered are = absurd are
all_within host recorded judged (line ∷ lines) [] answered are = absurd are
all_within host recorded judged (line ∷ lines) (mark ∷ polled) answered are =
    (mark_within host recorded judged line mark answered.0 are.0, all_within host recorded judged lines polled answered.1 are.1)

either_acks : (most upto : ℕ) (moved stayed : List ℕ) (moves : Bool) → upto ≤ most → AllByRecursion (AcksWithin most) (map Acked moved) → AllByRecursion (AcksWithin most) (map Acked stayed)
    → AllByRecursion (AcksWithin most) (map Acked (if moves then upto ∷ moved else stayed))
either_acks most upto moved stayed true within one other = (within, one)
either_acks most upto moved stayed false within one other = other

-- the acknowledgements are some of the marks
acks_within : (most mark sealed : ℕ) (polled : List (Option ℕ)) → AllByRecursion (Within most) polled → AllByRecursion (AcksWithin most) (map Acked (marks_beyond mark sealed polled))
acks_within most mark sealed [] all = tt
acks_within most mark sealed (None ∷ polled) all = acks_within most mark sealed polled all.1
acks_within most mark sealed (Some upto ∷ polled) all =
    either_acks most upto (marks_beyond upto sealed polled) (marks_beyond mark sealed polled) (nat_lt mark upto && nat_le upto sealed) all.0
    (acks_within most upto sealed polled all.1) (acks_within most mark sealed polled all.1)

pub marks_are_recorded : MarksAreRecorded
marks_are_recorded host entries recorded judged lines polled answered are =
    acks_within (length (after_lines recorded judged host)) (acked_upto entries) (length (commits entries)) polled (all_within host recorded judged lines polled answered are)
