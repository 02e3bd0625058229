-- Where a collector stands, as lines and pieces come.
use Rattle.std.proofs.Common.{◌≡◌, ◌∙◌, ℕ, ◌+◌, Bool, List, [], ◌∷◌, ◌++◌, length, ap, refl, sym, subst}
use Rattle.std.proofs.lemmas.List.{append_assoc, append-nil}
use Rattle.record_lines.specs.Cutting.{Cutter, HasCut}
use Rattle.record_lines.specs.Lines.{HasNoFeed, lines_of, rest_of}
use Rattle.record_lines.proofs.Cuts.{all_rest, lines_of-first, no_cuts, rest_of-first}
use Rattle.collector_core.specs.Ledgers.{digests_of}
use Rattle.collector_core.specs.Received.{HostDigests}
use Rattle.collector_answers.specs.declared.judging.Judged.{Judged}
use Rattle.collector_answers.specs.Judging.{AreJudged, LIMIT}
use Rattle.collector_ledger.proofs.Taken.{judged-append}
use Rattle.collect_rounds.specs.declared.collector.Collector.{Collector}
use Rattle.collect_rounds.specs.Collecting.{added_lines, after_lines, answers_to, behind_rest}
use Rattle.collect_rounds.specs.Rounds.{IsAt}
use Rattle.collect_rounds.specs.Runs.{Written}
use Rattle.collect_rounds.specs.Takes.{Standing, TakesJudged, TakesLine, TakesPiece, rest_after, standing_of}
use Rattle.collect_rounds.proofs.Alike.{added-alike, added-append, after-alike, after-append, answers-alike, answers-append, behind-append, rest-append}
use Rattle.collect_rounds.proofs.Lines.{lines-more, rest-more}

pub takes-none : (standing : Standing) → TakesJudged standing [] standing
takes-none standing = record { recorded = λ host. refl; rest = refl; added = sym (append-nil standing.added); answers = sym (append-nil standing.answers) }

-- lines are taken, and then others
pub takes-more : (before middle after : Standing) (judged others : List Judged) → TakesJudged before judged middle → TakesJudged middle others after → TakesJudged before (judged ++ others) after
takes-more before middle after judged others first second =
    let front = added_lines before.recorded judged in
    let back = added_lines (after_lines before.recorded judged) others in
    let back_is : added_lines middle.recorded others ≡ back = added-alike middle.recorded (after_lines before.recorded judged) others first.recorded in
    record {
      recorded = λ host. second.recorded host ∙ after-alike middle.recorded (after_lines before.recorded judged) others first.recorded host ∙ sym (after-append before.recorded judged others host);
      rest =
          second.rest ∙ ap (λ (r : Bool). rest_after r (added_lines middle.recorded others)) first.rest ∙ ap (rest_after (rest_after before.has_rest front)) back_is
          ∙ sym (rest-append before.has_rest front back) ∙ ap (rest_after before.has_rest) (sym (added-append before.recorded judged others));
      added =
          second.added ∙ ap (λ (x : List ℕ). x ++ behind_rest middle.has_rest (added_lines middle.recorded others)) first.added
          ∙ ap (λ (r : Bool). (before.added ++ behind_rest before.has_rest front) ++ behind_rest r (added_lines middle.recorded others)) first.rest
          ∙ ap (λ (x : List ℕ). (before.added ++ behind_rest before.has_rest front) ++ behind_rest (rest_after before.has_rest front) x) back_is
          ∙ append_assoc before.added (behind_rest before.has_rest front) (behind_rest (rest_after before.has_rest front) back)
          ∙ ap (λ (x : List ℕ). before.added ++ x) (sym (behind-append before.has_rest front back))
          ∙ ap (λ (x : List ℕ). before.added ++ behind_rest before.has_rest x) (sym (added-append before.recorded judged others));
      answers =
          second.answers ∙ ap (λ (x : List ℕ). x ++ answers_to middle.recorded others) first.answers
          ∙ ap (λ (x : List ℕ). (before.answers ++ answers_to before.recorded judged) ++ x) (answers-alike middle.recorded (after_lines before.recorded judged) others first.recorded)
          ∙ append_assoc before.answers (answers_to before.recorded judged) (answers_to (after_lines before.recorded judged) others)
          ∙ ap (λ (x : List ℕ). before.answers ++ x) (sym (answers-append before.recorded judged others));
    }

-- ---- the lines of a piece

-- the front lines of what the cutter has are taken
pub record HasTaken (before : Standing) (whole : List ℕ) (now : Collector) : Type 0 where
  pub stream : List ℕ
  pub start : ℕ
  pub done : List (List ℕ)
  pub judged : List Judged
  pub lines : lines_of whole ≡ done ++ lines_of stream
  pub rest : rest_of whole ≡ rest_of stream
  pub are : AreJudged done judged
  pub takes : TakesJudged before judged (standing_of now)
  pub limit : now.cutter.limit ≡ LIMIT
  pub stands : HasCut now.cutter start stream

pub taken-none : (before : Standing) (whole : List ℕ) (start : ℕ) (now : Collector) → standing_of now ≡ before → now.cutter.limit ≡ LIMIT → HasCut now.cutter start whole → HasTaken before whole now
taken-none before whole start now same limit stands = record {
  stream = whole;
  start = start;
  done = [];
  judged = [];
  lines = refl;
  rest = refl;
  are = tt;
  takes = subst (λ (s : Standing). TakesJudged before [] s) (sym same) (takes-none before);
  limit = limit;
  stands = stands;
}

-- one more line is taken from the cutter, and by the collector
pub taken-more : (before : Standing) (whole : List ℕ) (now after : Collector) (cutter : Cutter) (taken : HasTaken before whole now) (line : List ℕ) (behind : List ℕ)
    → taken.stream ≡ line ++ 10 ∷ behind → HasNoFeed line → cutter.limit ≡ now.cutter.limit → HasCut cutter (taken.start + length line + 1) behind
    → TakesLine (standing_of now) line (standing_of after) → after.cutter ≡ cutter → HasTaken before whole after
taken-more before whole now after cutter taken line behind is plain limit stands takes same = record {
  stream = behind;
  start = taken.start + length line + 1;
  done = taken.done ++ line ∷ [];
  judged = taken.judged ++ takes.judged ∷ [];
  lines =
      taken.lines ∙ ap (λ (stream : List ℕ). taken.done ++ lines_of stream) is ∙ ap (λ (ls : List (List ℕ)). taken.done ++ ls) (lines_of-first line behind plain)
      ∙ sym (append_assoc taken.done (line ∷ []) (lines_of behind));
  rest = taken.rest ∙ ap rest_of is ∙ rest_of-first line behind plain;
  are = judged-append taken.done (line ∷ []) taken.judged (takes.judged ∷ []) taken.are (takes.is, tt);
  takes = takes-more before (standing_of now) (standing_of after) taken.judged (takes.judged ∷ []) taken.takes takes.takes;
  limit = ap (λ (c : Cutter). c.limit) same ∙ limit ∙ taken.limit;
  stands = subst (λ (c : Cutter). HasCut c (taken.start + length line + 1) behind) (sym same) stands;
}

-- no further line has its line feed
pub taken-all : (before : Collector) (begun piece : List ℕ) (now : Collector) (taken : HasTaken (record (standing_of before) { added = []; answers = [] }) (begun ++ piece) now)
    → HasNoFeed taken.stream → TakesPiece before begun piece now
taken-all before begun piece now taken plain = record {
  judged = taken.judged;
  lines =
      subst (λ (ls : List (List ℕ)). AreJudged ls taken.judged)
      (sym (taken.lines ∙ ap (λ (ls : List (List ℕ)). taken.done ++ ls) (no_cuts taken.stream plain) ∙ append-nil taken.done)) taken.are;
  takes = taken.takes;
  start = taken.start;
  limit = taken.limit;
  stands = subst (HasCut now.cutter taken.start) (sym (taken.rest ∙ all_rest taken.stream plain)) taken.stands;
}

-- ---- pieces of a stream

-- what the run wrote, as where it stands
abbrev pub started : HostDigests → Bool → Written → Standing
started recorded has_rest written = record { recorded = recorded; has_rest = has_rest; added = written.ledger; answers = written.answers }

abbrev pub reached : Written → Collector → Standing
reached now collector = record { recorded = digests_of collector.ledger; has_rest = collector.has_rest; added = now.ledger; answers = now.answers }

at-taken : (recorded : HostDigests) (has_rest : Bool) (given : List ℕ) (before now : Written) (collector : Collector) (at : IsAt recorded has_rest given before now collector)
    → TakesJudged (started recorded has_rest before) at.judged (reached now collector)
at-taken recorded has_rest given before now collector at = record { recorded = at.recorded_is; rest = at.rest_is; added = at.ledger; answers = at.answers }

piece-taken : (now later : Written) (collector after : Collector) (judged : List Judged) → TakesJudged (record (standing_of collector) { added = []; answers = [] }) judged (standing_of after)
    → later.ledger ≡ now.ledger ++ after.added → later.answers ≡ now.answers ++ after.answers → TakesJudged (reached now collector) judged (reached later after)
piece-taken now later collector after judged takes ledger answers = record {
  recorded = takes.recorded;
  rest = takes.rest;
  added = ledger ∙ ap (λ (x : List ℕ). now.ledger ++ x) takes.added;
  answers = answers ∙ ap (λ (x : List ℕ). now.answers ++ x) takes.answers;
}

pub at-more : (recorded : HostDigests) (has_rest : Bool) (given piece : List ℕ) (before now later : Written) (collector after : Collector) (at : IsAt recorded has_rest given before now collector)
    → TakesPiece collector (rest_of given) piece after → later.ledger ≡ now.ledger ++ after.added → later.answers ≡ now.answers ++ after.answers
    → IsAt recorded has_rest (given ++ piece) before later after
at-more recorded has_rest given piece before now later collector after at takes ledger answers =
    let whole =
    takes-more (started recorded has_rest before) (reached now collector) (reached later after) at.judged takes.judged (at-taken recorded has_rest given before now collector at)
    (piece-taken now later collector after takes.judged takes.takes ledger answers) in
    record {
      judged = at.judged ++ takes.judged;
      lines =
          subst (λ (ls : List (List ℕ)). AreJudged ls (at.judged ++ takes.judged)) (sym (lines-more given piece))
          (judged-append (lines_of given) (lines_of (rest_of given ++ piece)) at.judged takes.judged at.lines takes.lines);
      recorded_is = whole.recorded;
      rest_is = whole.rest;
      ledger = whole.added;
      answers = whole.answers;
      limit = takes.limit;
      start = takes.start;
      stands = subst (HasCut after.cutter takes.start) (sym (rest-more given piece)) takes.stands;
    }
