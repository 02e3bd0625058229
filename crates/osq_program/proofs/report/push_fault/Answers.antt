use Rattle.std.proofs.Common.{◌++◌, ℕ, List, refl, ap, ◌∙◌}
use Rattle.osq_program.proofs.Pushed.{pushed_two}
use Rattle.osq_program.proofs.report.push_fault.Goals as goal

pub returns : goal.returns
returns c =
    let old = c.args.line.now in
    let place = pushed_two old _ _ _ _ refl c.in_ok-push_field.ensures in
    pushed_two old _ _ _ _ (pushed_two old _ _ _ _ (pushed_two old _ _ _ _ place c.in_ok-extend.ensures.ok)
    (c.in_ok-extend-2.ensures.ok ∙ ap (λ (text : List ℕ). c.extend.new.self ++ text) c.as_bytes.ensures.value)) c.in_ok-extend-3.ensures.ok
