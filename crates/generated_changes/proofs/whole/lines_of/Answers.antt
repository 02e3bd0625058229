use Rattle.std.proofs.Common.{rules, arith, ◌≡◌, ◌+◌, ◌++◌, ℕ, suc, refl, ap, ◌∙◌, List, []}
use Rattle.generated_changes.specs.Generated.{line_of, lines_of, number_after}
use Rattle.generated_changes.proofs.Behind.{line_pushed, next_number}
use Rattle.generated_changes.proofs.whole.lines_of.Goals as goal

pub loop-made-init : goal.loop-made-init
unfolding number_after lines_of
loop-made-init c = (refl, search rules)

pub loop-made-preserved : goal.loop-made-preserved
unfolding lines_of
loop-made-preserved c =
    let l = c.loop-made in
    let number : c.number_behind-number.result ≡ number_after (suc l.made) c.args.from = c.number_behind-number.ensures ∙ next_number c.args.from l.made l.number l.invariant.0 in
    let pushed : c.push_line.new.lines ≡ l.lines ++ line_of (number_after (suc l.made) c.args.from) (suc l.made) = line_pushed l.lines c.push_line.new.lines c.args.from l.made (l.made + 1) c.number_behind-number.result (omega arith) number c.in_ok-push_line.ensures in
    let next : l.made + 1 ≡ suc l.made = omega arith in
    rw next ((number, pushed ∙ ap (λ (before : List ℕ). before ++ line_of (number_after (suc l.made) c.args.from) (suc l.made)) l.invariant.1))
