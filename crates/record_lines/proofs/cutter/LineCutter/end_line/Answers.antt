use Rattle.std.proofs.Common.{List, ◌≡◌, ◌++◌, ◌∷◌, [], ap, ◌∙◌, sym, subst, refl, arith, is_ok, true, cond, length}
use Rattle.record_lines.specs.declared.line.Cut.{Cut}
use Rattle.record_lines.specs.declared.partial.Partial.{Partial}
use Rattle.record_lines.specs.Lines.{rest_of}
use Rattle.record_lines.specs.Rests.{IsRest}
use Rattle.record_lines.specs.Cutting.{Cutter, HasCut}
use Rattle.record_lines.specs.Held.{IsBounded}
use Rattle.record_lines.proofs.Standing.{stands_ended}
use Rattle.record_lines.proofs.Kept.{bounded_ended}
use Rattle.record_lines.proofs.cutter.LineCutter.end_line.Goals as goal

pub returns-clause-ok : goal.returns-clause-ok
returns-clause-ok c start stream stands plain =
    let at_view = subst (λ (v : Cutter). HasCut v start stream) (sym c.self.view_is) stands in
    let rest = c.in_ok-grow.ensures.ok _ at_view.rest in
    let line = c.into_cut.ensures.cut _ (subst (λ (p : Partial). IsRest c.self.inside.limit (rest_of stream ++ c.args.front.now) p) (sym c.replace-line.ensures.value) rest) in
    let full : is_ok c.append.result ≡ true = c.append.ensures.succeeds (
    let room = c.in_ok-reserve.ensures.ok in let added = c.push_back_reserved.ensures.len in let kept = c.push_back_reserved.ensures.capacity in let size = c.len.ensures in omega arith) in
    let later = c.in_ok-later.later.cuts.items in
    let pushed = c.push_back_reserved.new.self.items in
    let ready : c.append.new.self.items ≡ c.self.inside.ready.items ++ c.into_cut.result ∷ [] ++ c.in_ok-later.later.cuts.items =
    c.append.ensures.items ∙ ap (λ b. cond b (pushed ++ later) pushed) full
    ∙ ap (λ (cs : List Cut). cs ++ later) (c.push_back_reserved.ensures.items ∙ ap (λ (cs : List Cut). cs ++ c.into_cut.result ∷ []) c.reserve.ensures.items) in
    stands_ended _ _ start _ stream c.args.front.now c.args.behind.now c.into_cut.result c.in_ok-later.later.cuts.items at_view plain refl line c.in_ok-later.ensures.cuts refl ready c.in_ok-later.ensures.begun (subst (λ (p : Partial). IsRest c.self.inside.limit (rest_of c.args.behind.now) p) (sym c.replace-line.ensures.after) c.in_ok-later.ensures.rest)

pub invariant_of-self-2 : goal.invariant_of-self-2
invariant_of-self-2 c =
    let full : is_ok c.append.result ≡ true = c.append.ensures.succeeds (
    let room = c.in_ok-reserve.ensures.ok in let added = c.push_back_reserved.ensures.len in let kept = c.push_back_reserved.ensures.capacity in let size = c.len.ensures in omega arith) in
    let later = c.in_ok-later.later.cuts.items in
    let pushed = c.push_back_reserved.new.self.items in
    let ready : c.append.new.self.items ≡ c.self.inside.ready.items ++ c.into_cut.result ∷ [] ++ c.in_ok-later.later.cuts.items =
    c.append.ensures.items ∙ ap (λ b. cond b (pushed ++ later) pushed) full
    ∙ ap (λ (cs : List Cut). cs ++ later) (c.push_back_reserved.ensures.items ∙ ap (λ (cs : List Cut). cs ++ c.into_cut.result ∷ []) c.reserve.ensures.items) in
    let before = c.self.invariant in
    let grown = c.in_ok-grow.ensures.kept before.1.came before.1.rest in
    let size = c.in_ok-grow.ensures.size in
    let text = c.into_cut.ensures.text in
    let taken = ap (λ (p : Partial). length p.bytes) c.replace-line.ensures.value in
    let rest = subst (λ (p : Partial). IsRest c.self.inside.limit (rest_of c.args.behind.now) p) (sym c.replace-line.ensures.after) c.in_ok-later.ensures.rest in
    let bounded = bounded_ended c.self.inside.limit c.self.inside.begun c.self.inside.partial.size c.in_ok-later.later.begun _ (length c.args.front.now) c.self.inside.ready.items c.in_ok-later.later.cuts.items c.into_cut.result c.args.behind.now c.replace-line.new.dest before.1.lines (omega (arith, grown.0, size, text, taken)) refl c.in_ok-later.ensures.cuts c.in_ok-later.ensures.begun rest in
    let begun = c.in_ok-later.ensures.begun in
    let rest_size = rest.size in
    let room = c.requires in
    let same_begun = ap (λ (v : Cutter). v.begun) c.self.view_is in
    let same_size = ap (λ (v : Cutter). v.partial.size) c.self.view_is in
    (omega (arith, begun, rest_size, room, same_begun, same_size), subst (λ (cs : List Cut). IsBounded c.self.inside.limit c.in_ok-later.later.begun cs c.replace-line.new.dest) (sym ready) bounded)
