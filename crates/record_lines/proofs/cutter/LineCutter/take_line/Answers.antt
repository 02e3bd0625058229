use Rattle.std.proofs.Common.{refl, sym, ap, ◌∙◌, drop}
use Rattle.record_lines.specs.Cutting.{Cutter}
use Rattle.record_lines.proofs.Standing.{taken}
use Rattle.record_lines.proofs.cutter.LineCutter.take_line.Goals as goal

pub returns-clause-none : goal.returns-clause-none
returns-clause-none c start stream stands =
    let ready = ap (λ (v : Cutter). v.ready) c.self.view_is in
    let new : Cutter = record c.args.self.now { ready = c.pop_front.new.self.items } in
    (taken c.args.self.now new start stream c.pop_front.result stands (sym ready ∙ c.pop_front.ensures.items) (c.pop_front.ensures.rest ∙ ap (drop 1) ready) refl refl refl).0

pub returns-clause-some : goal.returns-clause-some
returns-clause-some c start stream stands =
    let ready = ap (λ (v : Cutter). v.ready) c.self.view_is in
    (taken c.args.self.now _ start stream c.pop_front.result stands (sym ready ∙ c.pop_front.ensures.items) (c.pop_front.ensures.rest ∙ ap (drop 1) ready)
    (ap (λ (v : Cutter). v.limit) c.self.view_is) (ap (λ (v : Cutter). v.begun) c.self.view_is) (ap (λ (v : Cutter). v.partial) c.self.view_is)).1
