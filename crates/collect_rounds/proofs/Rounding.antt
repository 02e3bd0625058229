-- Rounds over a stream.
use Rattle.std.proofs.Common.{◌<◌, ◌≡◌, ◌∙◌, ℕ, ◌+◌, ◌*◌, ◌≤◌, Bool, true, false, List, [], ◌++◌, length, Result, Ok, Err, ap, refl, sym, subst, arith, length-append}
use Rattle.std.specs.Prelude.{IsErr}
use Rattle.std.proofs.lemmas.List.{append_assoc, append-nil}
use Rattle.record_lines.specs.Cutting.{HasCut}
use Rattle.record_lines.proofs.Cuts.{lines_of-nil, rest_of-nil}
use Rattle.collector_core.specs.Ledgers.{digests_of}
use Rattle.collector_core.specs.Received.{HostDigests}
use Rattle.collector_answers.specs.Judging.{AreJudged, LIMIT}
use Rattle.collect_rounds.specs.declared.collector.Collector.{Collector}
use Rattle.collect_rounds.specs.Rounds.{IsAt, IsRound, TakesNext, TakesRound}
use Rattle.record_lines.specs.Limits.{STEP_BYTES}
use Rattle.collect_rounds.specs.Runs.{HasCollected, HasStopped, ROUND_BYTES, Runs, Written}
use Rattle.collect_rounds.proofs.Stops.{stopped-before}

module _ {E : Type 0} (recorded : HostDigests) (has_rest : Bool) where
  pub next-stopped : (given : List ℕ) (before now : Written) (collector : Collector) (result : Result (Unit {0}) E) → IsErr result → HasStopped recorded has_rest given before now
      → TakesNext recorded has_rest given before now collector result
  next-stopped given before now collector (Ok done) is stopped = cc is
  next-stopped given before now collector (Err error) is stopped = stopped

  pub round-stopped : (given left rest more : List ℕ) (before now : Written) (collector : Collector) (result : Result Bool E) → IsErr result → left ≡ more ++ rest
      → HasStopped recorded has_rest (given ++ more) before now → TakesRound recorded has_rest given left rest before now collector result
  round-stopped given left rest more before now collector (Ok is_end) is left_is stopped = cc is
  round-stopped given left rest more before now collector (Err error) is left_is stopped = (more, left_is, stopped)

  pub run-stopped : (left rest given : List ℕ) (rounds : ℕ) (before now : Written) (result : Result Bool E) → IsErr result → left ≡ given ++ rest
      → HasStopped recorded has_rest given before now → Runs recorded has_rest left rest rounds before now result
  run-stopped left rest given rounds before now (Ok is_end) is left_is stopped = cc is
  run-stopped left rest given rounds before now (Err error) is left_is stopped = (given, left_is, stopped)

-- so many bytes were read in this round
pub record GoesOn (recorded : HostDigests) (has_rest : Bool) (given left rest : List ℕ) (before now : Written) (collector : Collector) (read : ℕ) : Type 0 where
  pub more : List ℕ
  pub left_is : left ≡ more ++ rest
  pub size : length more ≡ read
  pub at : IsAt recorded has_rest (given ++ more) before now collector

pub goes-on : (recorded : HostDigests) (has_rest : Bool) (given left : List ℕ) (before now : Written) (collector : Collector) → IsAt recorded has_rest given before now collector
    → GoesOn recorded has_rest given left left before now collector 0
goes-on recorded has_rest given left before now collector at =
    record { more = []; left_is = refl; size = refl; at = subst (λ (g : List ℕ). IsAt recorded has_rest g before now collector) (sym (append-nil given)) at }

module _ (recorded : HostDigests) (has_rest : Bool) (given left mid rest piece : List ℕ) (before now later : Written) (collector after : Collector) (read : ℕ)
    (on : GoesOn recorded has_rest given left mid before now collector read) (gave : mid ≡ piece ++ rest) where
  pub more-left : left ≡ (on.more ++ piece) ++ rest
  more-left = on.left_is ∙ ap (λ (x : List ℕ). on.more ++ x) gave ∙ sym (append_assoc on.more piece rest)

  pub goes-further : (count : ℕ) → length piece ≡ count → IsAt recorded has_rest ((given ++ on.more) ++ piece) before later after → GoesOn recorded has_rest given left rest before later after (read + count)
  goes-further count size at = record {
    more = on.more ++ piece;
    left_is = more-left;
    size = (let whole = length-append on.more piece in let old = on.size in let sum : length (on.more ++ piece) ≡ read + count = omega arith in sum);
    at = subst (λ (g : List ℕ). IsAt recorded has_rest g before later after) (append_assoc given on.more piece) at;
  }

  pub stops-further : HasStopped recorded has_rest ((given ++ on.more) ++ piece) before later → HasStopped recorded has_rest (given ++ (on.more ++ piece)) before later
  stops-further stopped = subst (λ (g : List ℕ). HasStopped recorded has_rest g before later) (append_assoc given on.more piece) stopped

-- a read failed, and gave nothing
pub stops-unread : (recorded : HostDigests) (has_rest : Bool) (given left rest : List ℕ) (before now : Written) (collector : Collector) (read : ℕ)
    (on : GoesOn recorded has_rest given left rest before now collector read) → HasStopped recorded has_rest (given ++ on.more) before now
stops-unread recorded has_rest given left rest before now collector read on =
    subst (λ (g : List ℕ). HasStopped recorded has_rest g before now) (append-nil (given ++ on.more)) (stopped-before recorded has_rest (given ++ on.more) [] before now collector on.at)

-- the round has its bytes
pub round-full : (recorded : HostDigests) (has_rest : Bool) (given left rest : List ℕ) (before now : Written) (collector : Collector) (read : ℕ) → GoesOn recorded has_rest given left rest before now collector read → STEP_BYTES ≤ read → read ≤ ROUND_BYTES
    → (more : List ℕ) × (left ≡ more ++ rest) × (length more ≤ ROUND_BYTES) × IsRound false more rest × IsAt recorded has_rest (given ++ more) before now collector
round-full recorded has_rest given left rest before now collector read on enough within =
    (on.more, on.left_is, subst (λ (n : ℕ). n ≤ ROUND_BYTES) (sym on.size) within, subst (λ (n : ℕ). STEP_BYTES ≤ n) (sym on.size) enough, on.at)

-- the stream is at its end
pub round-ended : (recorded : HostDigests) (has_rest : Bool) (given left mid rest : List ℕ) (before now : Written) (collector : Collector) (read : ℕ) → GoesOn recorded has_rest given left mid before now collector read
    → mid ≡ [] → mid ≡ rest → read ≤ ROUND_BYTES
    → (more : List ℕ) × (left ≡ more ++ rest) × (length more ≤ ROUND_BYTES) × IsRound true more rest × IsAt recorded has_rest (given ++ more) before now collector
round-ended recorded has_rest given left mid rest before now collector read on end same within =
    (on.more, on.left_is ∙ ap (λ (x : List ℕ). on.more ++ x) same, subst (λ (n : ℕ). n ≤ ROUND_BYTES) (sym on.size) within, sym same ∙ end, on.at)

-- ---- rounds

-- so many rounds were run
pub record HasRun (recorded : HostDigests) (has_rest : Bool) (left rest : List ℕ) (before now : Written) (collector : Collector) (rounds : ℕ) : Type 0 where
  pub given : List ℕ
  pub left_is : left ≡ given ++ rest
  pub size : rounds * STEP_BYTES ≤ length given
  pub most : length given ≤ rounds * ROUND_BYTES
  pub at : IsAt recorded has_rest given before now collector

pub has-begun : (recorded : HostDigests) (has_rest : Bool) (left : List ℕ) (now : Written) (collector : Collector) → ((host : List ℕ) → digests_of collector.ledger host ≡ recorded host) → collector.has_rest ≡ has_rest
    → collector.cutter.limit ≡ LIMIT → HasCut collector.cutter 0 [] → HasRun recorded has_rest left left now now collector 0
has-begun recorded has_rest left now collector ledger rest limit stands = record {
  given = [];
  left_is = refl;
  size = (let none : 0 * STEP_BYTES ≤ 0 = omega arith in none);
  most = (let none : 0 ≤ 0 * ROUND_BYTES = omega arith in none);
  at = record {
    judged = [];
    lines = subst (λ (ls : List (List ℕ)). AreJudged ls []) (sym lines_of-nil) tt;
    recorded_is = ledger;
    rest_is = rest;
    ledger = sym (append-nil now.ledger);
    answers = sym (append-nil now.answers);
    limit = limit;
    start = 0;
    stands = subst (HasCut collector.cutter 0) (sym rest_of-nil) stands;
  };
}

more-bytes : (rounds size more whole : ℕ) → rounds * STEP_BYTES ≤ size → STEP_BYTES ≤ more → whole ≡ size + more → (rounds + 1) * STEP_BYTES ≤ whole
more-bytes rounds size more whole one other sum = omega arith

most-bytes : (rounds all size more whole : ℕ) → size ≤ rounds * ROUND_BYTES → more ≤ ROUND_BYTES → whole ≡ size + more → rounds < all → whole ≤ all * ROUND_BYTES
most-bytes rounds all size more whole one other sum behind = omega arith

module _ (recorded : HostDigests) (has_rest : Bool) (left mid rest : List ℕ) (before now later : Written) (collector after : Collector) (rounds : ℕ)
    (run : HasRun recorded has_rest left mid before now collector rounds) (more : List ℕ) (gave : mid ≡ more ++ rest) (within : length more ≤ ROUND_BYTES) where
  all-left : left ≡ (run.given ++ more) ++ rest
  all-left = run.left_is ∙ ap (λ (x : List ℕ). run.given ++ x) gave ∙ sym (append_assoc run.given more rest)

  most-of : (all : ℕ) → rounds < all → length (run.given ++ more) ≤ all * ROUND_BYTES
  most-of all behind = most-bytes rounds all (length run.given) (length more) (length (run.given ++ more)) run.most within (length-append run.given more) behind

  -- one more
  pub runs-further : STEP_BYTES ≤ length more → IsAt recorded has_rest (run.given ++ more) before later after → HasRun recorded has_rest left rest before later after (rounds + 1)
  runs-further enough at = record {
    given = run.given ++ more;
    left_is = all-left;
    size = more-bytes rounds (length run.given) (length more) (length (run.given ++ more)) run.size enough (length-append run.given more);
    most = most-of (rounds + 1) (let next : rounds < rounds + 1 = omega arith in next);
    at = at;
  }

  -- the last one, at the stream's end
  pub runs-out : (all : ℕ) → rounds < all → rest ≡ [] → IsAt recorded has_rest (run.given ++ more) before later after
      → (rest ≡ []) × (length left ≤ all * ROUND_BYTES) × HasCollected recorded has_rest left before later
  runs-out all behind end at =
      let whole : run.given ++ more ≡ left = sym (all-left ∙ ap (λ (x : List ℕ). (run.given ++ more) ++ x) end ∙ append-nil (run.given ++ more)) in
      (end, subst (λ (g : List ℕ). length g ≤ all * ROUND_BYTES) whole (most-of all behind), subst (λ (g : List ℕ). HasCollected recorded has_rest g before later) whole (record { judged = at.judged; lines = at.lines; ledger = at.ledger; answers = at.answers }))

-- a round stopped on the way
pub runs-stopped : {E : Type 0} → (recorded : HostDigests) (has_rest : Bool) (left mid rest : List ℕ) (before now later : Written) (collector : Collector) (rounds : ℕ)
    (run : HasRun recorded has_rest left mid before now collector rounds) (more : List ℕ) → mid ≡ more ++ rest → (all : ℕ) (result : Result Bool E) → IsErr result
    → HasStopped recorded has_rest (run.given ++ more) before later → Runs recorded has_rest left rest all before later result
runs-stopped recorded has_rest left mid rest before now later collector rounds run more gave all result is stopped =
    run-stopped recorded has_rest left rest (run.given ++ more) all before later result is
    (run.left_is ∙ ap (λ (x : List ℕ). run.given ++ x) gave ∙ sym (append_assoc run.given more rest)) stopped

-- all were run
pub runs-spent : (recorded : HostDigests) (has_rest : Bool) (left rest : List ℕ) (before now : Written) (collector : Collector) (rounds : ℕ) → HasRun recorded has_rest left rest before now collector rounds
    → (given : List ℕ) × (left ≡ given ++ rest) × (rounds * STEP_BYTES ≤ length given) × (length given ≤ rounds * ROUND_BYTES) × HasCollected recorded has_rest given before now
runs-spent recorded has_rest left rest before now collector rounds run =
    (run.given, run.left_is, run.size, run.most, record { judged = run.at.judged; lines = run.at.lines; ledger = run.at.ledger; answers = run.at.answers })
