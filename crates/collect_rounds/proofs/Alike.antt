-- What lines add hangs on the digests that are recorded, and what lines add behind others.
use Rattle.std.proofs.Common.{◌≡◌, ◌∙◌, ℕ, ◌+◌, ◌==◌, Bool, true, false, List, [], ◌∷◌, ◌++◌, length, ap, refl, sym}
use Rattle.std.specs.Prelude.{if◌then◌else◌}
use Rattle.std.proofs.lemmas.List.{append_assoc}
use Rattle.batch_frames.specs.Texts.{digest_of, text_of}
use Rattle.batch_frames.specs.declared.frame.Frame.{Frame}
use Rattle.collector_core.specs.Received.{HostDigests, received}
use Rattle.collector_core.specs.Receipts.{receipt_of}
use Rattle.collector_answers.specs.declared.judging.Judged.{Judged}
use Rattle.collector_answers.specs.declared.judging.Judged.TheVariants.{Framed, Bad}
use Rattle.collector_answers.specs.declared.answer.Answer.{Answer}
use Rattle.collector_answers.specs.Lines.{line_of}
use Rattle.collector_ledger.proofs.Taken.{received-alike}
use Rattle.collect_rounds.specs.Collecting.{added_by, added_lines, after_line, after_lines, answer_by, answer_in, answer_to, answers_to, behind_rest, receipt_in}
use Rattle.collect_rounds.specs.Takes.{rest_after}

abbrev Alike : HostDigests → HostDigests → Type 0
Alike one other = (host : List ℕ) → one host ≡ other host

line-alike : (one other : HostDigests) (judged : Judged) → Alike one other → Alike (after_line one judged) (after_line other judged)
line-alike one other (Framed frame digest) alike host = received-alike one other frame alike host
line-alike one other (Bad kind) alike host = alike host

pub after-alike : (one other : HostDigests) (judged : List Judged) → Alike one other → Alike (after_lines one judged) (after_lines other judged)
after-alike one other [] alike host = alike host
after-alike one other (j ∷ judged) alike host = after-alike (after_line one j) (after_line other j) judged (line-alike one other j alike) host

added_by-alike : (one other : HostDigests) (judged : Judged) → Alike one other → added_by one judged ≡ added_by other judged
added_by-alike one other (Framed frame digest) alike =
    ap (λ (digests : List (List ℕ)). if frame.batch.number == length digests + 1 then text_of frame ++ 10 ∷ [] else []) (alike frame.host)
added_by-alike one other (Bad kind) alike = refl

pub answer_to-alike : (one other : HostDigests) (frame : Frame) → Alike one other → answer_to one frame ≡ answer_to other frame
answer_to-alike one other frame alike =
    ap (λ (digests : List (List ℕ)). answer_by frame.host frame.batch.number (length digests) (receipt_in one frame)) (received-alike one other frame alike frame.host)
    ∙ ap (λ (digests : List (List ℕ)). answer_by frame.host frame.batch.number (length (received other frame frame.host)) (receipt_of digests frame.batch.number (digest_of frame))) (alike frame.host)

answer_in-alike : (one other : HostDigests) (judged : Judged) → Alike one other → answer_in one judged ≡ answer_in other judged
answer_in-alike one other (Framed frame digest) alike = answer_to-alike one other frame alike
answer_in-alike one other (Bad kind) alike = refl

pub added-alike : (one other : HostDigests) (judged : List Judged) → Alike one other → added_lines one judged ≡ added_lines other judged
added-alike one other [] alike = refl
added-alike one other (j ∷ judged) alike =
    ap (λ (x : List ℕ). x ++ added_lines (after_line one j) judged) (added_by-alike one other j alike)
    ∙ ap (λ (x : List ℕ). added_by other j ++ x) (added-alike (after_line one j) (after_line other j) judged (line-alike one other j alike))

pub answers-alike : (one other : HostDigests) (judged : List Judged) → Alike one other → answers_to one judged ≡ answers_to other judged
answers-alike one other [] alike = refl
answers-alike one other (j ∷ judged) alike =
    ap (λ (x : Answer). (line_of x ++ 10 ∷ []) ++ answers_to (after_line one j) judged) (answer_in-alike one other j alike)
    ∙ ap (λ (x : List ℕ). (line_of (answer_in other j) ++ 10 ∷ []) ++ x) (answers-alike (after_line one j) (after_line other j) judged (line-alike one other j alike))

-- ---- lines behind lines

pub after-append : (recorded : HostDigests) (judged others : List Judged) (host : List ℕ) → after_lines recorded (judged ++ others) host ≡ after_lines (after_lines recorded judged) others host
after-append recorded [] others host = refl
after-append recorded (j ∷ judged) others host = after-append (after_line recorded j) judged others host

pub added-append : (recorded : HostDigests) (judged others : List Judged) → added_lines recorded (judged ++ others) ≡ added_lines recorded judged ++ added_lines (after_lines recorded judged) others
added-append recorded [] others = refl
added-append recorded (j ∷ judged) others =
    ap (λ (x : List ℕ). added_by recorded j ++ x) (added-append (after_line recorded j) judged others)
    ∙ sym (append_assoc (added_by recorded j) (added_lines (after_line recorded j) judged) (added_lines (after_lines (after_line recorded j) judged) others))

pub answers-append : (recorded : HostDigests) (judged others : List Judged) → answers_to recorded (judged ++ others) ≡ answers_to recorded judged ++ answers_to (after_lines recorded judged) others
answers-append recorded [] others = refl
answers-append recorded (j ∷ judged) others =
    ap (λ (x : List ℕ). (line_of (answer_in recorded j) ++ 10 ∷ []) ++ x) (answers-append (after_line recorded j) judged others)
    ∙ sym (append_assoc (line_of (answer_in recorded j) ++ 10 ∷ []) (answers_to (after_line recorded j) judged) (answers_to (after_lines (after_line recorded j) judged) others))

pub behind-none : (bytes : List ℕ) → behind_rest false bytes ≡ bytes
behind-none [] = refl
behind-none (byte ∷ bytes) = refl

rest-none : (bytes : List ℕ) → rest_after false bytes ≡ false
rest-none [] = refl
rest-none (byte ∷ bytes) = refl

pub rest-append : (has_rest : Bool) (front back : List ℕ) → rest_after has_rest (front ++ back) ≡ rest_after (rest_after has_rest front) back
rest-append has_rest [] back = refl
rest-append has_rest (byte ∷ front) back = sym (rest-none back)

pub behind-append : (has_rest : Bool) (front back : List ℕ) → behind_rest has_rest (front ++ back) ≡ behind_rest has_rest front ++ behind_rest (rest_after has_rest front) back
behind-append has_rest [] back = refl
behind-append true (byte ∷ front) back = ap (λ (x : List ℕ). 10 ∷ byte ∷ (front ++ x)) (sym (behind-none back))
behind-append false (byte ∷ front) back = ap (λ (x : List ℕ). byte ∷ (front ++ x)) (sym (behind-none back))
