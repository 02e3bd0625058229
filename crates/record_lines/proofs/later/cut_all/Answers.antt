use Rattle.std.proofs.Common.{◌≡◌, ℕ, ◌+◌, List, [], ◌∷◌, ◌++◌, length, drop, sym, ap, ◌∙◌, arith, subst}
use Rattle.std.proofs.lemmas.List.{append-nil}
use Rattle.record_lines.specs.Lines.{cuts_of, lines_of, rest_of}
use Rattle.record_lines.specs.Rests.{IsRest}
use Rattle.record_lines.proofs.Cuts.{first_cut, step_cuts, plain-none, no_cuts, all_rest}
use Rattle.record_lines.proofs.Standing.{new_rest}
use Rattle.record_lines.proofs.later.cut_all.Goals as goal

pub loop-at-preserved : goal.loop-at-preserved
loop-at-preserved c =
    let rest = c.loop-at.rest.now in
    let at = c.in-Some.at in
    let first = first_cut rest at c.in-Some.ensures in
    let behind : c.split_at-in-Some.result.1.now ≡ drop 1 (drop at rest) = c.split_at-in-Some.ensures.back ∙ ap (drop 1) c.split_at.ensures.back in
    let lines : lines_of rest ≡ c.split_at.result.0.now ∷ lines_of c.split_at-in-Some.result.1.now =
    first.lines ∙ ap (λ l. l ∷ lines_of (drop 1 (drop at rest))) (sym c.split_at.ensures.front) ∙ ap (λ b. c.split_at.result.0.now ∷ lines_of b) (sym behind) in
    record {
      cuts = ap (λ cs. cs ++ cuts_of c.args.limit (c.loop-at.begun + (at + 1)) (lines_of c.split_at-in-Some.result.1.now)) c.in_ok-push_back.ensures.items
          ∙ step_cuts c.args.limit c.args.start c.loop-at.begun at c.args.bytes.now rest c.split_at.result.0.now c.split_at-in-Some.result.1.now c.loop-at.cuts.items _ c.loop-at.invariant.cuts lines c.split_at.ensures.front_len c.in_ok-whole.ensures;
      rest = ap rest_of behind ∙ sym first.rest ∙ c.loop-at.invariant.rest;
      begun = let size = first.size in let same = ap length behind in omega arith;
    }

pub returns-clause-cuts : goal.returns-clause-cuts
returns-clause-cuts c =
    let none = no_cuts c.loop-at.rest.now (plain-none c.loop-at.rest.now c.in_default.ensures) in
    sym (append-nil c.loop-at.cuts.items) ∙ ap (λ ls. c.loop-at.cuts.items ++ cuts_of c.args.limit c.loop-at.begun ls) (sym none) ∙ c.loop-at.invariant.cuts

pub returns-clause-begun : goal.returns-clause-begun
returns-clause-begun c =
    let all = all_rest c.loop-at.rest.now (plain-none c.loop-at.rest.now c.in_default.ensures) in
    ap (λ (r : List ℕ). c.loop-at.begun + length r) (sym c.loop-at.invariant.rest ∙ all) ∙ c.loop-at.invariant.begun

pub returns-clause-rest : goal.returns-clause-rest
returns-clause-rest c =
    let all = all_rest c.loop-at.rest.now (plain-none c.loop-at.rest.now c.in_default.ensures) in
    subst (λ r. IsRest c.args.limit r c.grow.new.self) (sym all ∙ c.loop-at.invariant.rest) (c.in_ok-grow.ensures.ok [] (new_rest c.args.limit c.new-partial.result c.new-partial.ensures.size c.new-partial.ensures.bytes))
