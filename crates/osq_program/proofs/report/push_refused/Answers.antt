use Rattle.std.proofs.Common.{◌++◌, ℕ, List, refl, ap, ◌∙◌}
use Rattle.osq_program.proofs.Pushed.{pushed_two}
use Rattle.osq_program.proofs.report.push_refused.Goals as goal

pub returns : goal.returns
returns c =
    let old = c.args.line.now in
    let kind = pushed_two old _ _ _ _ c.in_ok-extend.ensures.ok (c.in_ok-extend-2.ensures.ok ∙ ap (λ (text : List ℕ). c.extend.new.self ++ text) c.as_bytes.ensures.value) in
    pushed_two old _ _ _ _ (pushed_two old _ _ _ _ (pushed_two old _ _ _ _ kind refl) c.in_ok-push_named.ensures) c.in_ok-extend-3.ensures.ok
