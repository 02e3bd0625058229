-- What is recorded of a host and answered to it hangs on its own frames alone.
use Rattle.std.proofs.Common.{◌≡◌, ◌∙◌, ℕ, Bool, true, false, List, [], ◌∷◌, length, cond, bytes_eq, ap, refl, sym}
use Rattle.std.specs.Prelude.{if◌then◌else◌}
use Rattle.std.proofs.lemmas.Slice.Eq.{bytes_eq-Decides}
use Rattle.batch_frames.specs.Texts.{digest_of}
use Rattle.batch_frames.specs.declared.frame.Frame.{Frame}
use Rattle.collector_core.specs.Laws.{frames_of as frames_of_host}
use Rattle.collector_core.specs.Received.{HostDigests, all_received, received}
use Rattle.collector_core.specs.Receipts.{kept_after, receipt_of}
use Rattle.collector_core.proofs.Receiving.{isolation as core_isolation}
use Rattle.collector_answers.specs.declared.answer.Answer.{Answer}
use Rattle.collector_answers.specs.declared.judging.Judged.{Judged}
use Rattle.collector_answers.specs.declared.judging.Judged.TheVariants.{Framed, Bad}
use Rattle.collector_answers.specs.Judging.{frames_of}
use Rattle.collect_rounds.specs.Collecting.{after_lines, answer_by, answer_to, receipt_in}
use Rattle.collect_rounds.specs.Laws.{Isolation, answers_for}

-- only the frames among the lines are recorded
pub own-recorded : (recorded : HostDigests) (judged : List Judged) (host : List ℕ) → after_lines recorded judged host ≡ all_received recorded (frames_of judged) host
own-recorded recorded [] host = refl
own-recorded recorded (Framed frame digest ∷ judged) host = own-recorded (received recorded frame) judged host
own-recorded recorded (Bad kind ∷ judged) host = own-recorded recorded judged host

-- the answer to a frame of a host with these digests
abbrev pub own_answer : List (List ℕ) → Frame → Answer
own_answer digests frame =
    answer_by frame.host frame.batch.number (length (kept_after digests frame.batch.number (digest_of frame))) (receipt_of digests frame.batch.number (digest_of frame))

abbrev own_answers : List (List ℕ) → List Frame → List Answer
own_answers digests [] = []
own_answers digests (frame ∷ frames) = own_answer digests frame ∷ own_answers (kept_after digests frame.batch.number (digest_of frame)) frames

-- what a frame adds to a host
after-own : (recorded : HostDigests) (frame : Frame) (host : List ℕ) (b : Bool) → bytes_eq frame.host host ≡ b
    → received recorded frame host ≡ (if b then kept_after (recorded host) frame.batch.number (digest_of frame) else recorded host)
after-own recorded frame host b e = ap (λ (t : Bool). if t then kept_after (recorded host) frame.batch.number (digest_of frame) else recorded host) e

pub answered-own : (recorded : HostDigests) (frame : Frame) (host : List ℕ) → bytes_eq frame.host host ≡ true → answer_to recorded frame ≡ own_answer (recorded host) frame
answered-own recorded frame host e =
    let same : frame.host ≡ host = (bytes_eq-Decides frame.host host).0 e in
    let own : received recorded frame frame.host ≡ kept_after (recorded frame.host) frame.batch.number (digest_of frame) =
    after-own recorded frame frame.host true ((bytes_eq-Decides frame.host frame.host).1 refl) in
    ap (λ (digests : List (List ℕ)). answer_by frame.host frame.batch.number (length digests) (receipt_in recorded frame)) own
    ∙ ap (λ (digests : List (List ℕ)). answer_by frame.host frame.batch.number (length (kept_after digests frame.batch.number (digest_of frame))) (receipt_of digests frame.batch.number (digest_of frame))) (ap recorded same)

own-all : (host : List ℕ) (recorded : HostDigests) (judged : List Judged) → answers_for host recorded judged ≡ own_answers (recorded host) (frames_of_host host (frames_of judged))
own-all host recorded [] = refl
own-all host recorded (Bad kind ∷ judged) = own-all host recorded judged
own-all host recorded (Framed frame digest ∷ judged) = by (bytes_eq frame.host host) refl (own-all host (received recorded frame) judged)
  where
    frames : List Frame
    frames = frames_of_host host (frames_of judged)

    by : (b : Bool) → bytes_eq frame.host host ≡ b → answers_for host (received recorded frame) judged ≡ own_answers (received recorded frame host) (frames_of_host host (frames_of judged))
        → (if b then answer_to recorded frame ∷ answers_for host (received recorded frame) judged else answers_for host (received recorded frame) judged)
        ≡ own_answers (recorded host) (cond b (frame ∷ frames_of_host host (frames_of judged)) (frames_of_host host (frames_of judged)))
    by true e others =
        ap (λ (a : Answer). a ∷ answers_for host (received recorded frame) judged) (answered-own recorded frame host e)
        ∙ ap (λ (answers : List Answer). own_answer (recorded host) frame ∷ answers)
        (others ∙ ap (λ (digests : List (List ℕ)). own_answers digests (frames_of_host host (frames_of judged))) (after-own recorded frame host true e))
    by false e others = others ∙ ap (λ (digests : List (List ℕ)). own_answers digests (frames_of_host host (frames_of judged))) (after-own recorded frame host false e)

pub isolation : Isolation
isolation host one other judged others same alike = (
  own-recorded one judged host ∙ core_isolation host one other (frames_of judged) (frames_of others) same alike ∙ sym (own-recorded other others host),
  own-all host one judged ∙ ap (λ (digests : List (List ℕ)). own_answers digests (frames_of_host host (frames_of judged))) same
      ∙ ap (own_answers (other host)) alike ∙ sym (own-all host other others),
)
