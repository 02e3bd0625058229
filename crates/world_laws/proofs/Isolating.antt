-- What is recorded of a host and answered to it hangs on its own lines alone.
use Rattle.std.proofs.Common.{◌≡◌, ◌∙◌, inl, inr, ℕ, Bool, true, false, cond, List, [], ◌∷◌, bytes_eq, length, true≢false, ap, refl, sym, subst}
use Rattle.std.specs.Prelude.{if◌then◌else◌}
use Rattle.std.proofs.lemmas.Slice.Eq.{bytes_eq-Decides}
use Rattle.batch_frames.specs.declared.frame.Frame.{Frame}
use Rattle.batch_frames.specs.Texts.{digest_of}
use Rattle.collector_core.specs.Laws.{frames_of as frames_of_host}
use Rattle.collector_core.specs.Received.{HostDigests, received}
use Rattle.collector_answers.specs.declared.answer.Answer.{Answer}
use Rattle.collector_answers.specs.declared.judging.Judged.{Judged}
use Rattle.collector_answers.specs.declared.judging.Judged.TheVariants.{Bad, Framed}
use Rattle.collector_answers.specs.Judging.{AreJudged, IsJudged, frames_of}
use Rattle.collect_rounds.specs.Collecting.{after_lines, answer_by, answer_to}
use Rattle.collect_rounds.specs.Laws.{answers_for}
use Rattle.collect_rounds.proofs.Isolating.{answered-own, isolation, own_answer}
use Rattle.collector_core.specs.Receipts.{kept_after, receipt_of}
use Rattle.world_laws.specs.Laws.{LinesIsolate, TellSame}
use Rattle.world_laws.specs.Lines.{AreLinesOf, IsLineOf}
use Rattle.world_laws.proofs.Judgings.{AllAlike, all_alike, received_same}

-- what the host's own lines were judged, of whose frames no other line has one of the host
record Own (host : List ℕ) (mine : List (List ℕ)) (judged : List Judged) : Type 0 where
  own : List Judged
  are : AreJudged mine own
  frames : frames_of_host host (frames_of judged) ≡ frames_of_host host (frames_of own)

-- one line more, which is the host's
more_own : (host : List ℕ) (one : Judged) (judged own : List Judged) → frames_of_host host (frames_of judged) ≡ frames_of_host host (frames_of own)
    → frames_of_host host (frames_of (one ∷ judged)) ≡ frames_of_host host (frames_of (one ∷ own))
more_own host (Framed frame digest) judged own same = ap (λ (frames : List Frame). cond (bytes_eq frame.host host) (frame ∷ frames) frames) same
more_own host (Bad kind) judged own same = same

-- one that isn't
not_own : (host line : List ℕ) (one : Judged) (judged : List Judged) → (IsLineOf host line → ⊥) → IsJudged line one
    → frames_of_host host (frames_of (one ∷ judged)) ≡ frames_of_host host (frames_of judged)
not_own host line (Bad kind) judged other is = refl
not_own host line (Framed frame digest) judged other is = by (bytes_eq frame.host host) refl
  where
    by : (b : Bool) → bytes_eq frame.host host ≡ b
        → cond b (frame ∷ frames_of_host host (frames_of judged)) (frames_of_host host (frames_of judged)) ≡ frames_of_host host (frames_of judged)
    by true e = absurd (other (is.0, (frame, is.3, is.1, (bytes_eq-Decides frame.host host).0 e)))
    by false e = refl

own_of : (host : List ℕ) (lines mine : List (List ℕ)) (judged : List Judged) → AreLinesOf host lines mine → AreJudged lines judged → Own host mine judged
own_of host [] mine [] none are = record { own = []; are = subst (λ (ls : List (List ℕ)). AreJudged ls []) (sym none) tt; frames = refl }
own_of host [] mine (one ∷ judged) none are = absurd are
own_of host (line ∷ lines) mine [] split are = absurd are
own_of host (line ∷ lines) mine (one ∷ judged) (inl (is, (others, mine_is, rest))) are =
    let next = own_of host lines others judged rest are.1 in
    record {
      own = one ∷ next.own;
      are = subst (λ (ls : List (List ℕ)). AreJudged ls (one ∷ next.own)) (sym mine_is) (are.0, next.are);
      frames = more_own host one judged next.own next.frames;
    }
own_of host (line ∷ lines) mine (one ∷ judged) (inr (other, rest)) are =
    let next = own_of host lines mine judged rest are.1 in
    record { own = next.own; are = next.are; frames = not_own host line one judged other are.0 ∙ next.frames }

-- frames that tell the same have one answer
answered_same : (digests : List (List ℕ)) (frame next : Frame) → TellSame frame next → own_answer digests frame ≡ own_answer digests next
answered_same digests frame next tell =
    ap (λ (host : List ℕ). answer_by host frame.batch.number (length (kept_after digests frame.batch.number (digest_of frame))) (receipt_of digests frame.batch.number (digest_of frame))) tell.host
    ∙ ap (λ (number : ℕ). answer_by next.host number (length (kept_after digests number (digest_of frame))) (receipt_of digests number (digest_of frame))) tell.number
    ∙ ap (λ (digest : List ℕ). answer_by next.host next.batch.number (length (kept_after digests next.batch.number digest)) (receipt_of digests next.batch.number digest)) tell.digest

-- lines that are judged alike have the same answers, and leave the same
alike_same : (host : List ℕ) (one other : HostDigests) (judged others : List Judged) → one host ≡ other host → AllAlike judged others
    → (after_lines one judged host ≡ after_lines other others host) × (answers_for host one judged ≡ answers_for host other others)
alike_same host one other [] [] same alike = (same, refl)
alike_same host one other [] (next ∷ others) same alike = absurd alike
alike_same host one other (first ∷ judged) [] same alike = absurd alike
alike_same host one other (Framed frame digest ∷ judged) (Bad kind ∷ others) same alike = absurd alike.0
alike_same host one other (Bad kind ∷ judged) (Framed frame digest ∷ others) same alike = absurd alike.0
alike_same host one other (Bad kind ∷ judged) (Bad another ∷ others) same alike = alike_same host one other judged others same alike.1
alike_same host one other (Framed frame digest ∷ judged) (Framed next shown ∷ others) same alike =
    let tell = alike.0 in
    let later = alike_same host (received one frame) (received other next) judged others (received_same host one other frame next same tell) alike.1 in
    (later.0, by (bytes_eq frame.host host) (bytes_eq next.host host) refl refl (ap (λ (sender : List ℕ). bytes_eq sender host) tell.host) same tell later.1)
  where
    answered : bytes_eq frame.host host ≡ true → bytes_eq next.host host ≡ true → one host ≡ other host → TellSame frame next → answer_to one frame ≡ answer_to other next
    answered its theirs same tell =
        answered-own one frame host its ∙ ap (λ (digests : List (List ℕ)). own_answer digests frame) same ∙ answered_same (other host) frame next tell
        ∙ sym (answered-own other next host theirs)

    by : (b c : Bool) → bytes_eq frame.host host ≡ b → bytes_eq next.host host ≡ c → bytes_eq frame.host host ≡ bytes_eq next.host host → one host ≡ other host → TellSame frame next
        → answers_for host (received one frame) judged ≡ answers_for host (received other next) others
        → (if b then answer_to one frame ∷ answers_for host (received one frame) judged else answers_for host (received one frame) judged)
        ≡ (if c then answer_to other next ∷ answers_for host (received other next) others else answers_for host (received other next) others)
    by true true its theirs both same tell later =
        ap (λ (answer : Answer). answer ∷ answers_for host (received one frame) judged) (answered its theirs same tell)
        ∙ ap (λ (answers : List Answer). answer_to other next ∷ answers) later
    by true false its theirs both same tell later = absurd (true≢false (sym its ∙ both ∙ theirs))
    by false true its theirs both same tell later = absurd (true≢false (sym theirs ∙ sym both ∙ its))
    by false false its theirs both same tell later = later

pub lines_isolate : LinesIsolate
lines_isolate host one other lines others mine judged judged_others same its theirs are also =
    let first = own_of host lines mine judged its are in
    let second = own_of host others mine judged_others theirs also in
    let between = alike_same host one other first.own second.own same (all_alike mine first.own second.own first.are second.are) in
    let before = isolation host one one judged first.own refl first.frames in
    let behind = isolation host other other judged_others second.own refl second.frames in
    (before.0 ∙ between.0 ∙ sym behind.0, before.1 ∙ between.1 ∙ sym behind.1)
