use Rattle.std.proofs.Common.{ap, ◌∙◌, drop, length, length-drop, arith}
use Rattle.std.proofs.lemmas.Bool.{false≢true}
use Rattle.change_records.proofs.PartMatches.{one-found, run_step, run_stop, ends_match, match_ends}
use Rattle.change_records.proofs.pattern.matches_behind_run.Goals as goal

pub returns-in_default-find : goal.returns-in_default-find
returns-in_default-find c = (
  λ is. absurd (false≢true is),
  λ m. absurd (run_stop _ _ _ c.in-Some.at c.in-Some.ensures c.split_at.ensures.front c.in_default-find.ensures (c.loop-at.invariant.to m)),
)

pub loop-at-preserved : goal.loop-at-preserved
loop-at-preserved c =
    let P = c.loop-at.pattern.now in
    let next = c.split_at-in-Some-3.ensures.back ∙ ap (drop 1) c.split_at.ensures.back in
    let rest = c.split_at-in-Some-2.ensures.back ∙ ap (drop c.in-Some.at) c.split_at-in-Some.ensures.back in
    let step = run_step P c.loop-at.part.now c.split_at.result.0.now c.split_at-in-Some-3.result.1.now c.split_at-in-Some-2.result.1.now c.in-Some.at c.in-Some-find.found c.in-Some.ensures c.split_at.ensures.front c.split_at.ensures.front_len next c.in-Some-find.ensures rest in
    record { from = λ m. c.loop-at.invariant.from (step.0 m); to = λ m. step.1 (c.loop-at.invariant.to m) }

pub loop-at-smaller : goal.loop-at-smaller
loop-at-smaller c =
    let P = c.loop-at.pattern.now in
    let found = one-found 37 P c.in-Some.at c.in-Some.ensures in
    let within = found.0 in
    let next = ap length (c.split_at-in-Some-3.ensures.back ∙ ap (drop 1) c.split_at.ensures.back) in
    let one = length-drop 1 (drop c.in-Some.at P) in
    let all = length-drop c.in-Some.at P in
    omega arith

pub returns : goal.returns
returns c = (
  λ is. c.loop-at.invariant.from (ends_match _ _ c.in_default.ensures (c.ends_with.ensures.0 is)),
  λ m. c.ends_with.ensures.1 (match_ends _ _ c.in_default.ensures (c.loop-at.invariant.to m)),
)
