-- What one line makes of a collector.
use Rattle.std.proofs.Common.{◌≡◌, ◌∙◌, ℕ, ◌+◌, ◌<◌, ◌==◌, Bool, true, false, List, [], ◌∷◌, ◌++◌, length, bytes_eq, ap, refl, sym, subst, arith}
use Rattle.std.specs.Prelude.{if◌then◌else◌, nat_le, nat_lt}
use Rattle.std.proofs.lemmas.Bool.Decides.{nat_tests}
use Rattle.std.proofs.lemmas.List.{append_assoc, append-nil}
use Rattle.record_lines.specs.declared.line.Cut.TheVariants as cut
use Rattle.record_lines.specs.Lines.{cut_of}
use Rattle.batch_frames.specs.Decodes.{IsFrameOf}
use Rattle.batch_frames.specs.Texts.{digest_of, text_of}
use Rattle.batch_frames.specs.declared.frame.Frame.{Frame}
use Rattle.collector_core.specs.declared.receipt.Receipt.{Receipt}
use Rattle.collector_core.specs.declared.receipt.Receipt.TheVariants.{Recorded, Repeat, Gap, Conflict}
use Rattle.collector_core.specs.Ledgers.{digests_of}
use Rattle.collector_core.specs.Receipts.{kept_at, receipt_of}
use Rattle.collector_core.specs.Received.{HostDigests, received}
use Rattle.collector_answers.specs.declared.answer.Answer.{Answer}
use Rattle.collector_answers.specs.declared.answer.Answer.TheVariants as answer
use Rattle.collector_answers.specs.declared.answer.BadAnswer.{BadAnswer}
use Rattle.collector_answers.specs.declared.judging.Judged.TheVariants.{Framed, Bad}
use Rattle.collector_answers.specs.Lines.{line_of}
use Rattle.collect_rounds.specs.declared.collector.Collector.{Collector}
use Rattle.collect_rounds.specs.Collecting.{added_lines, answer_by, answer_to, behind_rest}
use Rattle.collect_rounds.specs.Takes.{Standing, TakesJudged, line_by, rest_after, standing_of}

-- what a receipt adds is the frame's line where the number is the next one
line-added : (kept : List (List ℕ)) (k : ℕ) (found line text : List ℕ) → line ≡ text → line_by (receipt_of kept k found) line ≡ (if k == length kept + 1 then text ++ 10 ∷ [] else [])
line-added kept k found line text is = by (k == length kept + 1) (nat_lt (length kept + 1) k) (bytes_eq (kept_at kept k) found)
  where
    by : (a b c : Bool) → line_by (if a then Recorded else (if b then Gap (length kept) else (if c then Repeat else Conflict k (kept_at kept k) found))) line ≡ (if a then text ++ 10 ∷ [] else [])
    by true b c = ap (λ (x : List ℕ). x ++ 10 ∷ []) is
    by false true c = refl
    by false false true = refl
    by false false false = refl

answered : (front text : List ℕ) → front ++ text ++ 10 ∷ [] ≡ front ++ ((text ++ 10 ∷ []) ++ [])
answered front text = append_assoc front text (10 ∷ []) ∙ ap (λ (x : List ℕ). front ++ x) (sym (append-nil (text ++ 10 ∷ [])))

-- a frame was received, its line added, and it was answered
pub received-so : (old base mid after : Collector) (frame : Frame) (digest line : List ℕ) (receipt : Receipt) (recorded : ℕ) (answered_by : Answer) → IsFrameOf line frame → digest ≡ digest_of frame
    → base.has_rest ≡ old.has_rest → base.added ≡ old.added → base.answers ≡ old.answers
    → receipt ≡ receipt_of (digests_of old.ledger frame.host) frame.batch.number digest
    → ((host : List ℕ) → digests_of base.ledger host ≡ received (digests_of old.ledger) frame host)
    → mid ≡ record base { added = base.added ++ behind_rest base.has_rest (line_by receipt line); has_rest = rest_after base.has_rest (line_by receipt line) }
    → recorded ≡ length (digests_of mid.ledger frame.host) → answered_by ≡ answer_by frame.host frame.batch.number recorded receipt
    → after ≡ record mid { answers = mid.answers ++ line_of answered_by ++ 10 ∷ [] }
    → TakesJudged (standing_of old) (Framed frame digest ∷ []) (standing_of after)
received-so old base mid after frame digest line receipt recorded answered_by of digest_is rest added answers receipt_is step mid_is recorded_is answer_is after_is =
    let before = digests_of old.ledger in
    let k = frame.batch.number in
    let kept = before frame.host in
    let text : line_by receipt line ≡ added_lines before (Framed frame digest ∷ []) =
    ap (λ (r : Receipt). line_by r line) receipt_is ∙ line-added kept k digest line (text_of frame) of.is ∙ sym (append-nil (if k == length kept + 1 then text_of frame ++ 10 ∷ [] else [])) in
    let ledger_is : (host : List ℕ) → digests_of after.ledger host ≡ digests_of base.ledger host =
    λ host. ap (λ (c : Collector). digests_of c.ledger host) after_is ∙ ap (λ (c : Collector). digests_of c.ledger host) mid_is in
    let count : recorded ≡ length (received before frame frame.host) = recorded_is ∙ ap (λ (c : Collector). length (digests_of c.ledger frame.host)) mid_is ∙ ap (λ (ds : List (List ℕ)). length ds) (step frame.host) in
    let same : answered_by ≡ answer_to before frame =
    answer_is ∙ ap (λ (n : ℕ). answer_by frame.host k n receipt) count
    ∙ ap (λ (r : Receipt). answer_by frame.host k (length (received before frame frame.host)) r) (receipt_is ∙ ap (λ (d : List ℕ). receipt_of kept k d) digest_is) in
    record {
      recorded = λ host. ledger_is host ∙ step host;
      rest =
          ap (λ (c : Collector). c.has_rest) after_is ∙ ap (λ (c : Collector). c.has_rest) mid_is ∙ ap (λ (b : Bool). rest_after b (line_by receipt line)) rest ∙ ap (rest_after old.has_rest) text;
      added =
          ap (λ (c : Collector). c.added) after_is ∙ ap (λ (c : Collector). c.added) mid_is ∙ ap (λ (x : List ℕ). x ++ behind_rest base.has_rest (line_by receipt line)) added
          ∙ ap (λ (b : Bool). old.added ++ behind_rest b (line_by receipt line)) rest ∙ ap (λ (x : List ℕ). old.added ++ behind_rest old.has_rest x) text;
      answers =
          ap (λ (c : Collector). c.answers) after_is ∙ ap (λ (x : List ℕ). x ++ line_of answered_by ++ 10 ∷ []) (ap (λ (c : Collector). c.answers) mid_is ∙ answers)
          ∙ ap (λ (a : Answer). old.answers ++ line_of a ++ 10 ∷ []) same ∙ answered old.answers (line_of (answer_to before frame));
    }

-- a line that is no frame was answered
pub bad-so : (old after : Collector) (kind : BadAnswer) → after ≡ record old { answers = old.answers ++ line_of (answer.Bad kind) ++ 10 ∷ [] } → TakesJudged (standing_of old) (Bad kind ∷ []) (standing_of after)
bad-so old after kind is =
    subst (λ (c : Collector). TakesJudged (standing_of old) (Bad kind ∷ []) (standing_of c)) (sym is)
    (record { recorded = λ host. refl; rest = refl; added = sym (append-nil old.added); answers = answered old.answers (line_of (answer.Bad kind)) })

longer : (size limit : ℕ) → nat_le size limit ≡ false → limit < size
longer size limit e = grind (arith, nat_tests)

-- a line is passed over where it is longer than the limit
pub skipped-long : (limit end place : ℕ) (line : List ℕ) → cut.Skipped place ≡ cut_of limit end line → limit < length line
skipped-long limit end place line is = by (nat_le (length line) limit) refl is
  where
    by : (b : Bool) → nat_le (length line) limit ≡ b → cut.Skipped place ≡ (if b then cut.Line (record { text = line; end = end }) else cut.Skipped end) → limit < length line
    by true e clash = absurd (let gone : ⊥ = cc in gone)
    by false e clash = longer (length line) limit e

abbrev standing : HostDigests → Bool → List ℕ → List ℕ → Standing
standing recorded has_rest added answers = record { recorded = recorded; has_rest = has_rest; added = added; answers = answers }

-- nothing is to be written
pub emptied : (recorded : HostDigests) (has_rest : Bool) (added answers : List ℕ) → added ≡ [] → answers ≡ [] → standing recorded has_rest added answers ≡ standing recorded has_rest [] []
emptied recorded has_rest added answers one other = ap (λ (x : List ℕ). standing recorded has_rest x answers) one ∙ ap (λ (x : List ℕ). standing recorded has_rest [] x) other
