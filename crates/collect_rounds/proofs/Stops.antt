-- Where a collector stops.
use Rattle.std.proofs.Common.{◌≡◌, ◌∙◌, ℕ, ◌+◌, ◌<◌, ◌≤◌, Bool, List, [], ◌++◌, length, take, ap, refl, sym, subst, arith, length-append}
use Rattle.std.proofs.lemmas.List.{append_assoc, append-nil}
use Rattle.std.proofs.Math.Seq.{take-append-add, take-length}
use Rattle.record_lines.specs.Lines.{lines_of, rest_of}
use Rattle.collector_core.specs.Ledgers.{digests_of}
use Rattle.collector_core.specs.Received.{HostDigests}
use Rattle.collector_answers.specs.declared.judging.Judged.{Judged}
use Rattle.collector_answers.specs.Judging.{AreJudged}
use Rattle.collector_ledger.proofs.Taken.{judged-append}
use Rattle.collect_rounds.specs.declared.collector.Collector.{Collector}
use Rattle.collect_rounds.specs.Collecting.{added_lines, after_lines, answers_to, behind_rest}
use Rattle.collect_rounds.specs.Rounds.{IsAt}
use Rattle.collect_rounds.specs.Runs.{HasStopped, Written}
use Rattle.collect_rounds.specs.Takes.{TakesPiece, rest_after}
use Rattle.collect_rounds.proofs.Alike.{added-alike, added-append, answers-alike, behind-append}
use Rattle.collect_rounds.proofs.Lines.{lines-more}

-- nothing was read yet
pub stopped-first : (recorded : HostDigests) (has_rest : Bool) (now : Written) → HasStopped recorded has_rest [] now now
stopped-first recorded has_rest now = record {
  done = [];
  works = [];
  lines = [];
  others = lines_of [];
  are = refl;
  judged = tt;
  all = [];
  all_is = refl;
  added = 0;
  enough = (let same : 0 ≤ 0 = omega arith in same);
  ledger = sym (append-nil now.ledger);
  answered = 0;
  answers = sym (append-nil (now.answers ++ []) ∙ append-nil now.answers);
  ordered = λ some. (let same : 0 ≤ 0 = omega arith in same);
}

-- nothing of the next piece was written
pub stopped-before : (recorded : HostDigests) (has_rest : Bool) (given piece : List ℕ) (before now : Written) (collector : Collector) → IsAt recorded has_rest given before now collector
    → HasStopped recorded has_rest (given ++ piece) before now
stopped-before recorded has_rest given piece before now collector at =
    let all = behind_rest has_rest (added_lines recorded at.judged) in
    record {
      done = at.judged;
      works = [];
      lines = lines_of given;
      others = lines_of (rest_of given ++ piece);
      are = lines-more given piece;
      judged = subst (AreJudged (lines_of given)) (sym (append-nil at.judged)) at.lines;
      all = all;
      all_is = ap (λ (js : List Judged). behind_rest has_rest (added_lines recorded js)) (sym (append-nil at.judged));
      added = length all;
      enough = (let same : length all ≤ length all = omega arith in same);
      ledger = at.ledger ∙ ap (λ (x : List ℕ). before.ledger ++ x) (sym (take-length all));
      answered = 0;
      answers = at.answers ∙ sym (append-nil (before.answers ++ answers_to recorded at.judged));
      ordered = λ some. (let same : length all ≤ length all = omega arith in same);
    }

-- what the lines done and those at work add
whole-added : (recorded : HostDigests) (has_rest : Bool) (given piece : List ℕ) (before now : Written) (collector after : Collector) (at : IsAt recorded has_rest given before now collector)
    (takes : TakesPiece collector (rest_of given) piece after)
    → behind_rest has_rest (added_lines recorded (at.judged ++ takes.judged)) ≡ behind_rest has_rest (added_lines recorded at.judged) ++ after.added
whole-added recorded has_rest given piece before now collector after at takes =
    let front = added_lines recorded at.judged in
    let back = added_lines (after_lines recorded at.judged) takes.judged in
    let back_is : added_lines (digests_of collector.ledger) takes.judged ≡ back = added-alike (digests_of collector.ledger) (after_lines recorded at.judged) takes.judged at.recorded_is in
    ap (behind_rest has_rest) (added-append recorded at.judged takes.judged) ∙ behind-append has_rest front back
    ∙ ap (λ (x : List ℕ). behind_rest has_rest front ++ behind_rest (rest_after has_rest front) x) (sym back_is)
    ∙ ap (λ (r : Bool). behind_rest has_rest front ++ behind_rest r (added_lines (digests_of collector.ledger) takes.judged)) (sym at.rest_is)
    ∙ ap (λ (x : List ℕ). behind_rest has_rest front ++ x) (sym takes.takes.added)

-- so many bytes of the ledger's file were written, and so many of the answers, and of these some only behind all of those
pub stopped-within : (recorded : HostDigests) (has_rest : Bool) (given piece : List ℕ) (before now later : Written) (collector after : Collector) → IsAt recorded has_rest given before now collector
    → TakesPiece collector (rest_of given) piece after → (count answered : ℕ) → later.ledger ≡ now.ledger ++ take count after.added → later.answers ≡ now.answers ++ take answered after.answers
    → (0 < answered → length after.added ≤ count) → HasStopped recorded has_rest (given ++ piece) before later
stopped-within recorded has_rest given piece before now later collector after at takes count answered ledger answers ordered =
    let front = behind_rest has_rest (added_lines recorded at.judged) in
    let all = behind_rest has_rest (added_lines recorded (at.judged ++ takes.judged)) in
    let all_is : all ≡ front ++ after.added = whole-added recorded has_rest given piece before now collector after at takes in
    let size : length all ≡ length front + length after.added = ap (λ (x : List ℕ). length x) all_is ∙ length-append front after.added in
    record {
      done = at.judged;
      works = takes.judged;
      lines = lines_of (given ++ piece);
      others = [];
      are = sym (append-nil (lines_of (given ++ piece)));
      judged =
          subst (λ (ls : List (List ℕ)). AreJudged ls (at.judged ++ takes.judged)) (sym (lines-more given piece))
          (judged-append (lines_of given) (lines_of (rest_of given ++ piece)) at.judged takes.judged at.lines takes.lines);
      all = all;
      all_is = refl;
      added = length front + count;
      enough = (let within : length front ≤ length front + count = omega arith in within);
      ledger =
          ledger ∙ ap (λ (x : List ℕ). x ++ take count after.added) at.ledger ∙ append_assoc before.ledger front (take count after.added)
          ∙ ap (λ (x : List ℕ). before.ledger ++ x) (sym (ap (take (length front + count)) all_is ∙ take-append-add front after.added count));
      answered = answered;
      answers =
          answers ∙ ap (λ (x : List ℕ). x ++ take answered after.answers) at.answers
          ∙ ap (λ (x : List ℕ). (before.answers ++ answers_to recorded at.judged) ++ take answered x)
          (takes.takes.answers ∙ answers-alike (digests_of collector.ledger) (after_lines recorded at.judged) takes.judged at.recorded_is);
      ordered = λ some. (let more = ordered some in let enough : length all ≤ length front + count = omega (arith, more, size) in enough);
    }

-- all of the answers' text is all of its bytes
pub all-taken : (before now text : List ℕ) → now ≡ before ++ text → now ≡ before ++ take (length text) text
all-taken before now text is = is ∙ ap (λ (x : List ℕ). before ++ x) (sym (take-length text))

pub none-taken : (before now text : List ℕ) → now ≡ before → now ≡ before ++ take 0 text
none-taken before now text is = is ∙ sym (append-nil before)
