use Rattle.std.proofs.Common.{rules, arith, ◌≡◌, ◌+◌, ◌++◌, ℕ, suc, refl, ap, ◌∙◌, List, [], take}
use Rattle.generated_changes.specs.Generated.{line_of, number_after}
use Rattle.generated_changes.proofs.Behind.{all_written, front_of, front_written, line_held, line_pushed, line_more, next_number, none_held, part_written}
use Rattle.generated_changes.proofs.writing.write_lines.Goals as goal

pub loop-made-init : goal.loop-made-init
unfolding number_after
loop-made-init g c =
    let none : c.new-held.result ≡ [] = search rules in
    record { number = refl; behind = λ tells. none_held _ c.args.from c.new-held.result none; later = omega arith }

pub returns-in_err-push_line-clause-lines : goal.returns-in_err-push_line-clause-lines
returns-in_err-push_line-clause-lines g c tells =
    let l = c.loop-made in
    let front = front_of _ _ c.args.from l.made c.args.count l.held (omega arith) (l.invariant.behind tells) in
    search rules

pub returns-in_err-held-clause-lines : goal.returns-in_err-held-clause-lines
returns-in_err-held-clause-lines g c tells =
    let l = c.loop-made in
    let number : c.number_behind-number.result ≡ number_after (suc l.made) c.args.from = c.number_behind-number.ensures ∙ next_number c.args.from l.made l.number l.invariant.number in
    let pushed : c.push_line.new.lines ≡ l.held ++ line_of (number_after (suc l.made) c.args.from) (suc l.made) = line_pushed l.held c.push_line.new.lines c.args.from l.made (l.made + 1) c.number_behind-number.result (omega arith) number c.in_ok-push_line.ensures in
    let some = c.in_err-held.ensures.bytes tells in
    let more = line_held _ _ c.args.from l.made l.held _ (l.invariant.behind tells) pushed in
    let part = part_written _ _ _ c.args.from (suc l.made) _ some.0 more some.1 in
    let front = front_of _ _ c.args.from (suc l.made) c.args.count _ (omega arith) part in
    search rules

pub loop-made-preserved : goal.loop-made-preserved
loop-made-preserved g c =
    let l = c.loop-made in
    let number : c.number_behind-number.result ≡ number_after (suc l.made) c.args.from = c.number_behind-number.ensures ∙ next_number c.args.from l.made l.number l.invariant.number in
    let pushed : c.push_line.new.lines ≡ l.held ++ line_of (number_after (suc l.made) c.args.from) (suc l.made) = line_pushed l.held c.push_line.new.lines c.args.from l.made (l.made + 1) c.number_behind-number.result (omega arith) number c.in_ok-push_line.ensures in
    let next : l.made + 1 ≡ suc l.made = omega arith in
    rw next (record {
      number = number;
      behind = λ tells. line_more _ _ _ c.args.from l.made l.held _ _ (l.invariant.behind tells) pushed (c.in_ok-held.ensures.bytes tells);
      later = omega (arith, l.invariant.later, c.in_ok-held.ensures.cause.later);
    })

pub returns-in_err-write_all-clause-lines : goal.returns-in_err-write_all-clause-lines
returns-in_err-write_all-clause-lines g c tells =
    let l = c.loop-made in
    let some = c.in_err-write_all.ensures.bytes tells in
    let front = front_written _ _ _ c.args.from l.made c.args.count l.held _ some.0 (omega arith) (l.invariant.behind tells) c.as_slice.ensures some.1 in
    search rules
