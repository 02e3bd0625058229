use Rattle.std.proofs.Common.{◌≡◌, ◌≤◌, ◌-◌, true, arith, get_or, sym, ◌∙◌}
use Rattle.osq_value.specs.Spelling.{is_digit}
use Rattle.pack_rules.proofs.VersionNumbers.{room, digit_more, digit_bound, below_more}
use Rattle.pack_rules.proofs.version.part_number.Goals as goal

pub overflow_mul-number : goal.overflow_mul-number
overflow_mul-number c = omega (arith, room c.loop-at.at c.loop-at.number (grind arith) c.loop-at.invariant.below)

pub overflow_add-number : goal.overflow_add-number
overflow_add-number c =
    let digit : is_digit (get_or c.args.part.now c.loop-at.at 0) ≡ true = grind arith in
    let small : get_or c.args.part.now c.loop-at.at 0 - 48 ≤ 9 = digit_bound _ digit in
    grind (arith, room c.loop-at.at c.loop-at.number (grind arith) c.loop-at.invariant.below)

pub loop-at-preserved : goal.loop-at-preserved
loop-at-preserved c =
    let at = c.loop-at.at in
    let part = c.args.part.now in
    let digit : is_digit (get_or part at 0) ≡ true = grind arith in
    rw c.from.ensures (record {
      below = below_more at c.loop-at.number (get_or part at 0 - 48) (digit_bound _ digit) c.loop-at.invariant.below;
      value = sym (digit_more part at c.loop-at.number (grind arith) (grind arith) digit) ∙ c.loop-at.invariant.value;
    })
