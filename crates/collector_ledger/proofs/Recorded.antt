-- The frames of a host that a file records, line by line.
use Rattle.std.proofs.Common.{◌≡◌, ◌∙◌, ℕ, ◌+◌, ◌==◌, ◌<◌, ◌≤◌, Bool, true, false, List, [], ◌∷◌, ◌++◌, length, bytes_eq, append_assoc, append-nil, refl, sym, subst, ap, arith, Some, None}
use Rattle.std.specs.Prelude.{◌&&◌, if◌then◌else◌}
use Rattle.std.proofs.lemmas.List.{length_push}
use Rattle.batch_frames.specs.declared.frame.Frame.{Frame}
use Rattle.batch_frames.specs.Decodes.{IsFrameOf}
use Rattle.collector_core.specs.Received.{recorded_from}
use Rattle.collector_answers.specs.declared.answer.BadAnswer.{BadAnswer}
use Rattle.collector_answers.specs.declared.answer.BadAnswer.TheVariants.{TooLong, NotJson, WrongShape, BadDigest, NotCanonical}
use Rattle.collector_answers.specs.declared.judging.Judged.{Judged}
use Rattle.collector_answers.specs.declared.judging.Judged.TheVariants.{Framed, Bad}
use Rattle.collector_answers.specs.Judging.{AreJudged, IsAlone, IsJudged, LIMIT, frames_of}
use Rattle.collector_ledger.specs.Files.{file_lines}
use Rattle.collector_ledger.specs.Frames.{AreAlone, AreRecorded, OneRecord, TakesFrame}
use Rattle.collector_ledger.proofs.Taken.{frames_of-append, judged-append}

-- ---- frames behind others
counted : (host : List ℕ) (own : Bool) (count : ℕ) (frame : Frame) (frames others : List Frame)
    → ((n : ℕ) → recorded_from n host (frames ++ others) ≡ recorded_from n host frames ++ recorded_from (n + length (recorded_from n host frames)) host others)
    → (if own then frame ∷ recorded_from (count + 1) host (frames ++ others) else recorded_from count host (frames ++ others))
    ≡ (if own then frame ∷ recorded_from (count + 1) host frames else recorded_from count host frames)
    ++ recorded_from (count + length (if own then frame ∷ recorded_from (count + 1) host frames else recorded_from count host frames)) host others
counted host true count frame frames others later =
    let moved : (count + 1) + length (recorded_from (count + 1) host frames) ≡ count + length (frame ∷ recorded_from (count + 1) host frames) = omega arith in
    ap (λ (rest : List Frame). frame ∷ rest) (later (count + 1))
    ∙ ap (λ (n : ℕ). frame ∷ recorded_from (count + 1) host frames ++ recorded_from n host others) moved
counted host false count frame frames others later = later count

pub recorded-append : (host : List ℕ) (frames others : List Frame) (count : ℕ)
    → recorded_from count host (frames ++ others) ≡ recorded_from count host frames ++ recorded_from (count + length (recorded_from count host frames)) host others
recorded-append host [] others count = ap (λ (n : ℕ). recorded_from n host others) (let none : List Frame = [] in let same : count ≡ count + length none = omega arith in same)
recorded-append host (frame ∷ frames) others count =
    counted host (bytes_eq frame.host host && frame.batch.number == count + 1) count frame frames others (recorded-append host frames others)

pub alone-append : (lines more : List (List ℕ)) (judged others : List Judged) → AreJudged lines judged → AreAlone lines judged → AreAlone more others → AreAlone (lines ++ more) (judged ++ others)
alone-append [] more [] others are alone also = also
alone-append [] more (j ∷ judged) others are alone also = absurd are
alone-append (line ∷ lines) more [] others are alone also = absurd are
alone-append (line ∷ lines) more (j ∷ judged) others are alone also = (alone.0, alone-append lines more judged others are.1 alone.1 also)

-- ---- one line
pub taken_bad : (host line : List ℕ) (before : List Frame) (kind : BadAnswer) → IsJudged line (Bad kind) → TakesFrame host before line before (length before)
taken_bad host line before kind is = record { judged = Bad kind; is = is; alone = tt; after_is = sym (append-nil before) }

pub taken_frame : (host line digest : List ℕ) (before after : List Frame) (frame : Frame) → IsJudged line (Framed frame digest) → IsAlone line (Framed frame digest)
    → after ≡ before ++ (if bytes_eq frame.host host && frame.batch.number == length before + 1 then frame ∷ [] else []) → TakesFrame host before line after (length before)
taken_frame host line digest before after frame is alone grown = record { judged = Framed frame digest; is = is; alone = alone; after_is = grown }

-- ---- the front lines of the file are taken
pub record HasFound (file host rest : List ℕ) (frames : List Frame) : Type 0 where
  pub done : List (List ℕ)
  pub judged : List Judged
  pub lines : file_lines file ≡ done ++ file_lines rest
  pub judgments : AreJudged done judged
  pub alone : AreAlone done judged
  pub are : frames ≡ recorded_from 0 host (frames_of judged)

pub found_none : (file host : List ℕ) (frames : List Frame) → frames ≡ [] → HasFound file host file frames
found_none file host frames none = record { done = []; judged = []; lines = refl; judgments = tt; alone = tt; are = none }

grown : (host line : List ℕ) (frames after : List Frame) (judged : List Judged) (takes : TakesFrame host frames line after (length frames)) → frames ≡ recorded_from 0 host (frames_of judged)
    → after ≡ recorded_from 0 host (frames_of (judged ++ takes.judged ∷ []))
grown host line frames after judged takes before =
    let one : List Frame = frames_of (takes.judged ∷ []) in
    takes.after_is
    ∙ ap (λ (front : List Frame). front ++ recorded_from (length front) host one) before
    ∙ ap (λ (n : ℕ). recorded_from 0 host (frames_of judged) ++ recorded_from n host one)
    (let same : length (recorded_from 0 host (frames_of judged)) ≡ 0 + length (recorded_from 0 host (frames_of judged)) = omega arith in same)
    ∙ sym (recorded-append host (frames_of judged) one 0)
    ∙ ap (recorded_from 0 host) (sym (frames_of-append judged (takes.judged ∷ [])))

pub found_more : (file host rest line behind : List ℕ) (frames after : List Frame) → HasFound file host rest frames → file_lines rest ≡ line ∷ file_lines behind
    → TakesFrame host frames line after (length frames) → HasFound file host behind after
found_more file host rest line behind frames after before cut takes = record {
  done = before.done ++ line ∷ [];
  judged = before.judged ++ takes.judged ∷ [];
  lines = before.lines ∙ ap (λ (lines : List (List ℕ)). before.done ++ lines) cut ∙ sym (append_assoc before.done (line ∷ []) (file_lines behind));
  judgments = judged-append before.done (line ∷ []) before.judged (takes.judged ∷ []) before.judgments (takes.is, tt);
  alone = alone-append before.done (line ∷ []) before.judged (takes.judged ∷ []) before.judgments before.alone (takes.alone, tt);
  are = grown host line frames after before.judged takes before.are;
}

-- the last line is taken
pub found_all : (file host rest : List ℕ) (frames after : List Frame) → HasFound file host rest frames → file_lines rest ≡ rest ∷ [] → TakesFrame host frames rest after (length frames)
    → AreRecorded file host after
found_all file host rest frames after before last takes =
    let whole : file_lines file ≡ before.done ++ rest ∷ [] = before.lines ∙ ap (λ (lines : List (List ℕ)). before.done ++ lines) last in
    let judged : List Judged = before.judged ++ takes.judged ∷ [] in
    record {
      judged = judged;
      lines = subst (λ (lines : List (List ℕ)). AreJudged lines judged) (sym whole) (judged-append before.done (rest ∷ []) before.judged (takes.judged ∷ []) before.judgments (takes.is, tt));
      alone = subst (λ (lines : List (List ℕ)). AreAlone lines judged) (sym whole) (alone-append before.done (rest ∷ []) before.judged (takes.judged ∷ []) before.judgments before.alone (takes.alone, tt));
      are = grown host rest frames after before.judged takes before.are;
    }

-- ---- a file records one list
-- a line that is a frame isn't bad
not_bad : (line digest : List ℕ) (frame : Frame) (kind : BadAnswer) → IsJudged line (Framed frame digest) → IsJudged line (Bad kind) → ⊥
not_bad line digest frame TooLong is bad = let gone : ⊥ = omega (arith, is.0, bad) in gone
not_bad line digest frame NotJson is bad = bad.1 frame is.3 is.1
not_bad line digest frame WrongShape is bad = bad.1 frame is.3 is.1
not_bad line digest frame BadDigest is bad = bad.1 frame is.3 is.1
not_bad line digest frame NotCanonical is bad = bad.1 frame is.3 is.1

one_frames : (lines : List (List ℕ)) (one other : List Judged) → AreJudged lines one → AreAlone lines one → AreJudged lines other → frames_of one ≡ frames_of other
one_frames [] [] [] are alone also = refl
one_frames [] [] (j ∷ other) are alone also = absurd also
one_frames [] (j ∷ one) other are alone also = absurd are
one_frames (line ∷ lines) [] other are alone also = absurd are
one_frames (line ∷ lines) (j ∷ one) [] are alone also = absurd also
one_frames (line ∷ lines) (Framed frame digest ∷ one) (Framed made sum ∷ other) are alone also =
    ap (λ (f : Frame). f ∷ frames_of one) (alone.0 made also.0.3 also.0.1) ∙ ap (λ (rest : List Frame). made ∷ rest) (one_frames lines one other are.1 alone.1 also.1)
one_frames (line ∷ lines) (Framed frame digest ∷ one) (Bad kind ∷ other) are alone also = absurd (not_bad line digest frame kind are.0 also.0)
one_frames (line ∷ lines) (Bad kind ∷ one) (Framed frame digest ∷ other) are alone also = absurd (not_bad line digest frame kind also.0 are.0)
one_frames (line ∷ lines) (Bad kind ∷ one) (Bad found ∷ other) are alone also = one_frames lines one other are.1 alone.1 also.1

pub recorded_once : OneRecord
recorded_once file host one other here there =
    here.are ∙ ap (recorded_from 0 host) (one_frames (file_lines file) here.judged there.judged here.lines here.alone there.lines) ∙ sym there.are
