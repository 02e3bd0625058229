-- The ledger of a file with what a collector added to it.
use Rattle.std.proofs.Common.{◌≡◌, ◌≢◌, ◌∙◌, ℕ, suc, ◌+◌, ◌==◌, ◌≤◌, Bool, true, false, cond, List, [], ◌∷◌, ◌++◌, length, map, flat_map, bytes_eq, ap, refl, sym, subst, arith, Some, None}
use Rattle.std.specs.Prelude.{if◌then◌else◌, nat_le}
use Rattle.std.proofs.lemmas.List.{append_assoc, append-nil}
use Rattle.std.proofs.lemmas.Slice.Eq.{bytes_eq-Decides}
use Rattle.std.proofs.lemmas.Bool.Decides.{Decides-eqb}
use Rattle.std.proofs.lemmas.Bool.{true≢false}
use Rattle.serde_json.specs.Read.{read}
use Rattle.serde_json.proofs.OnLiterals.{serde_json_on_literals}
use Rattle.record_lines.specs.Lines.{HasNoFeed, lines_behind, lines_of, rest_of}
use Rattle.record_lines.proofs.Cuts.{lines_of-first, lines_of-nil, rest_of-first, rest_of-nil}
use Rattle.batch_frames.specs.Texts.{digest_of, text_of}
use Rattle.batch_frames.specs.declared.frame.Frame.{Frame}
use Rattle.collector_core.specs.Receipts.{kept_after}
use Rattle.collector_core.specs.Received.{HostDigests, all_received, none_recorded, received}
use Rattle.collector_answers.specs.declared.answer.BadAnswer.TheVariants.{NotJson}
use Rattle.collector_answers.specs.declared.judging.Judged.{Judged}
use Rattle.collector_answers.specs.declared.judging.Judged.TheVariants.{Framed, Bad}
use Rattle.collector_answers.specs.Judging.{AreJudged, IsJudged, LIMIT, frames_of}
use Rattle.collector_answers.proofs.Told.{none_some}
use Rattle.collector_ledger.specs.Files.{IsLedgerOf, file_lines, has_rest}
use Rattle.collector_ledger.proofs.Taken.{all_received-alike, all_received-append, frames_of-append, judged-append}
use Rattle.collect_rounds.specs.Collecting.{added_lines, after_lines, behind_rest, is_recorded}
use Rattle.collect_rounds.specs.Laws.{Reopens}
use Rattle.collect_rounds.proofs.Lines.{lines-more, plain-append, plain-rest, rest-more}

-- ---- the frames that are recorded

abbrev news : HostDigests → List Judged → List Frame
news recorded [] = []
news recorded (Framed frame digest ∷ others) = if is_recorded recorded frame then frame ∷ news (received recorded frame) others else news (received recorded frame) others
news recorded (Bad kind ∷ others) = news recorded others

abbrev ended : List (List ℕ) → List ℕ
ended lines = flat_map (λ line. line ++ 10 ∷ []) lines

abbrev judged_of : List Frame → List Judged
judged_of frames = map (λ frame. Framed frame (digest_of frame)) frames

frames-judged : (frames : List Frame) → frames_of (judged_of frames) ≡ frames
frames-judged [] = refl
frames-judged (frame ∷ frames) = ap (λ (fs : List Frame). frame ∷ fs) (frames-judged frames)

-- they are what is added
added-news : (recorded : HostDigests) (judged : List Judged) → added_lines recorded judged ≡ ended (map text_of (news recorded judged))
added-news recorded [] = refl
added-news recorded (Bad kind ∷ others) = added-news recorded others
added-news recorded (Framed frame digest ∷ others) = by (is_recorded recorded frame) (added-news (received recorded frame) others)
  where
    by : (b : Bool) → added_lines (received recorded frame) others ≡ ended (map text_of (news (received recorded frame) others))
        → (if b then text_of frame ++ 10 ∷ [] else []) ++ added_lines (received recorded frame) others
        ≡ ended (map text_of (if b then frame ∷ news (received recorded frame) others else news (received recorded frame) others))
    by true later = ap (λ (x : List ℕ). (text_of frame ++ 10 ∷ []) ++ x) later
    by false later = later

-- a frame that isn't recorded changes nothing
unchanged : (recorded : HostDigests) (frame : Frame) → is_recorded recorded frame ≡ false → (host : List ℕ) → received recorded frame host ≡ recorded host
unchanged recorded frame old host = by (bytes_eq frame.host host) refl
  where
    by : (b : Bool) → bytes_eq frame.host host ≡ b → (if b then kept_after (recorded host) frame.batch.number (digest_of frame) else recorded host) ≡ recorded host
    by true e =
        let same : frame.host ≡ host = (bytes_eq-Decides frame.host host).0 e in
        ap (λ (t : Bool). if t then recorded host ++ digest_of frame ∷ [] else recorded host) (ap (λ (h : List ℕ). frame.batch.number == length (recorded h) + 1) (sym same) ∙ old)
    by false e = refl

-- and no other frame changes what is recorded
news-recorded : (recorded : HostDigests) (judged : List Judged) (host : List ℕ) → all_received recorded (news recorded judged) host ≡ after_lines recorded judged host
news-recorded recorded [] host = refl
news-recorded recorded (Bad kind ∷ others) host = news-recorded recorded others host
news-recorded recorded (Framed frame digest ∷ others) host = by (is_recorded recorded frame) refl (news-recorded (received recorded frame) others host)
  where
    by : (b : Bool) → is_recorded recorded frame ≡ b → all_received (received recorded frame) (news (received recorded frame) others) host ≡ after_lines (received recorded frame) others host
        → all_received recorded (if b then frame ∷ news (received recorded frame) others else news (received recorded frame) others) host ≡ after_lines (received recorded frame) others host
    by true e later = later
    by false e later = all_received-alike recorded (received recorded frame) (news (received recorded frame) others) (λ any. sym (unchanged recorded frame e any)) host ∙ later

abbrev HaveNoFeed : List (List ℕ) → Type 0
HaveNoFeed [] = Unit {0}
HaveNoFeed (line ∷ lines) = HasNoFeed line × HaveNoFeed lines

plain-behind : (begun bytes : List ℕ) → HasNoFeed begun → HaveNoFeed (lines_behind begun bytes)
plain-behind begun [] plain = tt
plain-behind begun (b ∷ bytes) plain = by (b == 10) refl (plain-behind [] bytes tt) (λ other. plain-behind (begun ++ b ∷ []) bytes (plain-append begun b plain other))
  where
    by : (t : Bool) → (b == 10) ≡ t → HaveNoFeed (lines_behind [] bytes) → (b ≢ 10 → HaveNoFeed (lines_behind (begun ++ b ∷ []) bytes))
        → HaveNoFeed (cond t (begun ∷ lines_behind [] bytes) (lines_behind (begun ++ b ∷ []) bytes))
    by true is others longer = (plain, others)
    by false is others longer = longer (λ same. true≢false (sym ((Decides-eqb b 10).1 same) ∙ is))

plain-lines : (bytes : List ℕ) → HaveNoFeed (lines_of bytes)
unfolding lines_of
plain-lines bytes = plain-behind [] bytes tt

-- each is a line of the stream, and the text of its frame
record AreNews (frames : List Frame) : Type 0 where
  pub plain : HaveNoFeed (map text_of frames)
  pub judged : AreJudged (map text_of frames) (judged_of frames)

news-judged : (recorded : HostDigests) (lines : List (List ℕ)) (judged : List Judged) → HaveNoFeed lines → AreJudged lines judged → AreNews (news recorded judged)
news-judged recorded [] [] plain are = record { plain = tt; judged = tt }
news-judged recorded [] (j ∷ judged) plain are = absurd are
news-judged recorded (line ∷ lines) [] plain are = absurd are
news-judged recorded (line ∷ lines) (Bad kind ∷ judged) plain are = news-judged recorded lines judged plain.1 are.1
news-judged recorded (line ∷ lines) (Framed frame digest ∷ judged) plain are =
    by (is_recorded recorded frame) (news-judged (received recorded frame) lines judged plain.1 are.1)
  where
    whole : IsJudged line (Framed frame digest)
    whole = are.0

    is : line ≡ text_of frame
    is = whole.1.is

    by : (b : Bool) → AreNews (news (received recorded frame) judged) → AreNews (if b then frame ∷ news (received recorded frame) judged else news (received recorded frame) judged)
    by true later = record {
      plain = (subst HasNoFeed is plain.0, later.plain);
      judged = ((subst (λ (l : List ℕ). length l ≤ LIMIT) is whole.0, record { valid = whole.1.valid; is = refl }, refl, whole.3), later.judged);
    }
    by false later = later

-- ---- the lines of the file

ended-first : (line : List ℕ) (lines : List (List ℕ)) → ended (line ∷ lines) ≡ line ++ 10 ∷ ended lines
ended-first line lines = append_assoc line (10 ∷ []) (ended lines)

ended-lines : (lines : List (List ℕ)) → HaveNoFeed lines → lines_of (ended lines) ≡ lines
ended-lines [] plain = lines_of-nil
ended-lines (line ∷ lines) plain =
    ap lines_of (ended-first line lines) ∙ lines_of-first line (ended lines) plain.0 ∙ ap (λ (ls : List (List ℕ)). line ∷ ls) (ended-lines lines plain.1)

ended-rest : (lines : List (List ℕ)) → HaveNoFeed lines → rest_of (ended lines) ≡ []
ended-rest [] plain = rest_of-nil
ended-rest (line ∷ lines) plain = ap rest_of (ended-first line lines) ∙ rest_of-first line (ended lines) plain.0 ∙ ended-rest lines plain.1

-- the lines behind a file without a rest, and behind one with a rest that is ended
lines-behind-none : (file : List ℕ) (lines : List (List ℕ)) → HaveNoFeed lines → rest_of file ≡ [] → file_lines (file ++ ended lines) ≡ (lines_of file ++ lines) ++ [] ∷ []
lines-behind-none file lines plain none =
    ap (λ (ls : List (List ℕ)). ls ++ rest_of (file ++ ended lines) ∷ [])
    (lines-more file (ended lines) ∙ ap (λ (r : List ℕ). lines_of file ++ lines_of (r ++ ended lines)) none ∙ ap (λ (ls : List (List ℕ)). lines_of file ++ ls) (ended-lines lines plain))
    ∙ ap (λ (r : List ℕ). (lines_of file ++ lines) ++ r ∷ []) (rest-more file (ended lines) ∙ ap (λ (r : List ℕ). rest_of (r ++ ended lines)) none ∙ ended-rest lines plain)

lines-behind-rest : (file : List ℕ) (lines : List (List ℕ)) → HaveNoFeed lines → file_lines (file ++ 10 ∷ ended lines) ≡ (file_lines file ++ lines) ++ [] ∷ []
lines-behind-rest file lines plain =
    ap (λ (ls : List (List ℕ)). ls ++ rest_of (file ++ 10 ∷ ended lines) ∷ [])
    (lines-more file (10 ∷ ended lines) ∙ ap (λ (ls : List (List ℕ)). lines_of file ++ ls) (lines_of-first (rest_of file) (ended lines) (plain-rest file))
    ∙ ap (λ (ls : List (List ℕ)). lines_of file ++ rest_of file ∷ ls) (ended-lines lines plain) ∙ sym (append_assoc (lines_of file) (rest_of file ∷ []) lines))
    ∙ ap (λ (r : List ℕ). (file_lines file ++ lines) ++ r ∷ [])
    (rest-more file (10 ∷ ended lines) ∙ rest_of-first (rest_of file) (ended lines) (plain-rest file) ∙ ended-rest lines plain)

-- ---- the empty line

no_json : read [] ≡ None
unfolding serde_json_on_literals
no_json = refl

abbrev first_or : List ℕ → ℕ
first_or [] = 0
first_or (b ∷ bytes) = b

no_frame : (frame : Frame) → [] ≡ text_of frame → ⊥
unfolding text_of
no_frame frame e = let same : 0 ≡ 123 = ap first_or e in let gone : ⊥ = omega (arith, same) in gone

empty-judged : IsJudged [] (Bad NotJson)
empty-judged = ((omega arith), (λ frame held is. no_frame frame is.is), (λ value json. none_some value (sym no_json ∙ json.is)))

empty-frames : (judged : Judged) → IsJudged [] judged → frames_of (judged ∷ []) ≡ []
empty-frames (Framed frame digest) is = absurd (no_frame frame is.1.is)
empty-frames (Bad kind) is = refl

-- ---- the ledger

-- the last line is judged last
record Last (lines : List (List ℕ)) (line : List ℕ) (judged : List Judged) : Type 0 where
  pub front : List Judged
  pub last : Judged
  pub is : judged ≡ front ++ last ∷ []
  pub fronts : AreJudged lines front
  pub lasts : IsJudged line last

last-of : (lines : List (List ℕ)) (line : List ℕ) (judged : List Judged) → AreJudged (lines ++ line ∷ []) judged → Last lines line judged
last-of [] line [] are = absurd are
last-of [] line (j ∷ []) are = record { front = []; last = j; is = refl; fronts = tt; lasts = are.0 }
last-of [] line (j ∷ k ∷ judged) are = absurd are.1
last-of (first ∷ lines) line [] are = absurd are
last-of (first ∷ lines) line (j ∷ judged) are =
    let later = last-of lines line judged are.1 in
    record { front = j ∷ later.front; last = later.last; is = ap (λ (js : List Judged). j ∷ js) later.is; fronts = (are.0, later.fronts); lasts = later.lasts }

-- frames received behind those of the file
received-behind : (recorded : HostDigests) (judged : List Judged) (front : List Judged) (tail : List Judged) (host : List ℕ) → frames_of tail ≡ []
    → ((any : List ℕ) → recorded any ≡ all_received none_recorded (frames_of front) any)
    → after_lines recorded judged host ≡ all_received none_recorded (frames_of ((front ++ judged_of (news recorded judged)) ++ tail)) host
received-behind recorded judged front tail host none is =
    let frames = news recorded judged in
    sym (news-recorded recorded judged host) ∙ all_received-alike recorded (all_received none_recorded (frames_of front)) frames is host
    ∙ sym (all_received-append none_recorded (frames_of front) frames host)
    ∙ ap (λ (fs : List Frame). all_received none_recorded (frames_of front ++ fs) host) (sym (frames-judged frames))
    ∙ ap (λ (fs : List Frame). all_received none_recorded fs host)
    (sym (frames_of-append (front ++ judged_of frames) tail ∙ ap (λ (fs : List Frame). frames_of (front ++ judged_of frames) ++ fs) none ∙ append-nil (frames_of (front ++ judged_of frames)) ∙ frames_of-append front (judged_of frames)))

-- behind a file without a rest
opened-none : (file : List ℕ) (recorded : HostDigests) (judged : List Judged) → IsLedgerOf file recorded → rest_of file ≡ [] → AreNews (news recorded judged)
    → IsLedgerOf (file ++ ended (map text_of (news recorded judged))) (after_lines recorded judged)
opened-none file recorded judged of none are =
    let frames = news recorded judged in
    let last = last-of (lines_of file) (rest_of file) of.judged of.lines in
    let empty : IsJudged [] last.last = subst (λ (l : List ℕ). IsJudged l last.last) none last.lasts in
    let no_more = empty-frames last.last empty in
    let front_is : frames_of of.judged ≡ frames_of last.front =
    ap frames_of last.is ∙ frames_of-append last.front (last.last ∷ []) ∙ ap (λ (fs : List Frame). frames_of last.front ++ fs) no_more ∙ append-nil (frames_of last.front) in
    record {
      judged = (last.front ++ judged_of frames) ++ last.last ∷ [];
      lines =
          subst (λ (ls : List (List ℕ)). AreJudged ls ((last.front ++ judged_of frames) ++ last.last ∷ [])) (sym (lines-behind-none file (map text_of frames) are.plain none))
          (judged-append (lines_of file ++ map text_of frames) ([] ∷ []) (last.front ++ judged_of frames) (last.last ∷ [])
          (judged-append (lines_of file) (map text_of frames) last.front (judged_of frames) last.fronts are.judged) (empty, tt));
      is = λ host. received-behind recorded judged last.front (last.last ∷ []) host no_more (λ any. of.is any ∙ ap (λ (fs : List Frame). all_received none_recorded fs any) front_is);
    }

-- behind a rest that is ended
opened-rest : (file : List ℕ) (recorded : HostDigests) (judged : List Judged) → IsLedgerOf file recorded → AreNews (news recorded judged)
    → IsLedgerOf (file ++ 10 ∷ ended (map text_of (news recorded judged))) (after_lines recorded judged)
opened-rest file recorded judged of are =
    let frames = news recorded judged in
    record {
      judged = (of.judged ++ judged_of frames) ++ Bad NotJson ∷ [];
      lines =
          subst (λ (ls : List (List ℕ)). AreJudged ls ((of.judged ++ judged_of frames) ++ Bad NotJson ∷ [])) (sym (lines-behind-rest file (map text_of frames) are.plain))
          (judged-append (file_lines file ++ map text_of frames) ([] ∷ []) (of.judged ++ judged_of frames) (Bad NotJson ∷ [])
          (judged-append (file_lines file) (map text_of frames) of.judged (judged_of frames) of.lines are.judged) (empty-judged, tt));
      is = λ host. received-behind recorded judged of.judged (Bad NotJson ∷ []) host refl of.is;
    }

-- nothing is added
opened-same : (file : List ℕ) (recorded : HostDigests) (judged : List Judged) → IsLedgerOf file recorded → news recorded judged ≡ [] → IsLedgerOf file (after_lines recorded judged)
opened-same file recorded judged of none = record {
  judged = of.judged;
  lines = of.lines;
  is = λ host. sym (news-recorded recorded judged host) ∙ ap (λ (fs : List Frame). all_received recorded fs host) none ∙ of.is host;
}

behind-first : (has_rest : Bool) (line : List ℕ) (more : List ℕ) → behind_rest has_rest ((line ++ 10 ∷ []) ++ more) ≡ (if has_rest then 10 ∷ ((line ++ 10 ∷ []) ++ more) else (line ++ 10 ∷ []) ++ more)
behind-first has_rest [] more = refl
behind-first has_rest (b ∷ line) more = refl

one-there : (n : ℕ) → nat_le 1 (suc n) ≡ true
one-there n = grind arith

empty-rest : (rest : List ℕ) → nat_le 1 (length rest) ≡ false → rest ≡ []
empty-rest [] e = refl
empty-rest (b ∷ rest) e = absurd (true≢false (sym (one-there (length rest)) ∙ e))

pub reopens : Reopens
reopens file given recorded judged of are =
    subst (λ (x : List ℕ). IsLedgerOf (file ++ behind_rest (has_rest file) x) (after_lines recorded judged)) (sym (added-news recorded judged)) (by (news recorded judged) refl (has_rest file) refl)
  where
    all : AreNews (news recorded judged)
    all = news-judged recorded (lines_of given) judged (plain-lines given) are

    some : (b : Bool) → has_rest file ≡ b → IsLedgerOf (file ++ (if b then 10 ∷ ended (map text_of (news recorded judged)) else ended (map text_of (news recorded judged)))) (after_lines recorded judged)
    some true e = opened-rest file recorded judged of all
    some false e = opened-none file recorded judged of (empty-rest (rest_of file) e) all

    by : (frames : List Frame) → news recorded judged ≡ frames → (b : Bool) → has_rest file ≡ b → IsLedgerOf (file ++ behind_rest b (ended (map text_of (news recorded judged)))) (after_lines recorded judged)
    by [] none b e =
        subst (λ (fs : List Frame). IsLedgerOf (file ++ behind_rest b (ended (map text_of fs))) (after_lines recorded judged)) (sym none)
        (subst (λ (f : List ℕ). IsLedgerOf f (after_lines recorded judged)) (sym (append-nil file)) (opened-same file recorded judged of none))
    by (frame ∷ frames) are_these b e =
        let first : ended (map text_of (news recorded judged)) ≡ (text_of frame ++ 10 ∷ []) ++ ended (map text_of frames) = ap (λ (fs : List Frame). ended (map text_of fs)) are_these in
        let text : behind_rest b (ended (map text_of (news recorded judged))) ≡ (if b then 10 ∷ ended (map text_of (news recorded judged)) else ended (map text_of (news recorded judged))) =
        ap (behind_rest b) first ∙ behind-first b (text_of frame) (ended (map text_of frames)) ∙ ap (λ (x : List ℕ). if b then 10 ∷ x else x) (sym first) in
        subst (λ (x : List ℕ). IsLedgerOf (file ++ x) (after_lines recorded judged)) (sym text) (some b e)
