use Rattle.std.proofs.Common.{ℕ, List, ◌≡◌, ◌++◌, ◌∷◌, ap, ◌∙◌, sym, subst, refl, arith, append_assoc, drop}
use Rattle.record_lines.specs.Lines.{HasNoFeed}
use Rattle.record_lines.specs.Cutting.{Cutter, HasCut}
use Rattle.record_lines.proofs.Cuts.{plain-none, plain-some}
use Rattle.record_lines.proofs.Standing.{stands_plain, on_ok}
use Rattle.record_lines.proofs.cutter.LineCutter.feed.Goals as goal

pub invariant_of-self : goal.invariant_of-self
invariant_of-self c = let before = c.self.invariant in let size = c.grow.ensures.size in omega arith

pub returns-in_default-clause-ok : goal.returns-in_default-clause-ok
returns-in_default-clause-ok c start stream stands =
    let at_view = subst (λ (v : Cutter). HasCut v start stream) (sym c.self.view_is) stands in
    let plain = plain-none c.args.piece.now c.in_default.ensures in
    on_ok c.grow.result (λ rest. stands_plain _ _ start stream c.args.piece.now at_view plain refl refl refl rest) (c.grow.ensures.ok _ at_view.rest)

pub returns-clause-ok : goal.returns-clause-ok
returns-clause-ok c start stream stands =
    let (within, plain, is) = plain-some c.args.piece.now c.in-Some.at c.in-Some.ensures in
    let front = c.split_at.ensures.front in
    let behind : c.split_at-2.result.1.now ≡ drop 1 (drop c.in-Some.at c.args.piece.now) = c.split_at-2.ensures.back ∙ ap (drop 1) c.split_at.ensures.back in
    let piece : c.args.piece.now ≡ c.split_at.result.0.now ++ 10 ∷ c.split_at-2.result.1.now =
    is ∙ ap (λ (f : List ℕ). f ++ 10 ∷ drop 1 (drop c.in-Some.at c.args.piece.now)) (sym front) ∙ ap (λ (b : List ℕ). c.split_at.result.0.now ++ 10 ∷ b) (sym behind) in
    let whole : stream ++ c.split_at.result.0.now ++ 10 ∷ c.split_at-2.result.1.now ≡ stream ++ c.args.piece.now =
    append_assoc stream c.split_at.result.0.now (10 ∷ c.split_at-2.result.1.now) ∙ ap (λ (p : List ℕ). stream ++ p) (sym piece) in
    on_ok c.end_line.result (subst (λ (s : List ℕ). HasCut c.end_line.new.self start s) whole)
    (c.end_line.ensures.ok start stream stands (subst HasNoFeed (sym front) plain))
