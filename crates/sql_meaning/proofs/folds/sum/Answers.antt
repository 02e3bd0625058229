use Rattle.std.proofs.Common.{◌≡◌, ℤ, pos, ap, ◌∙◌, sym, ◌&&◌, take, filter_map, is_none, unwrap_or, Option, arith}
use Rattle.std.proofs.lemmas.Int.{ints}
use Rattle.sql_scalar.specs.Arithmetic.{whole}
use Rattle.sql_meaning.specs.Folds.{total}
use Rattle.sql_meaning.proofs.FoldsLaws.{is_nil, is_nil-more, none-is, numbers-more, total-more}
use Rattle.sql_meaning.proofs.folds.sum.Goals as goal

pub loop-value-preserved : goal.loop-value-preserved
loop-value-preserved c =
    let numbers = filter_map whole (take c.loop-value.value-index c.args.values.now) in
    let number = whole c.value-item.result in
    let more = numbers-more c.args.values.now c.loop-value.value-index c.value-item.result (omega arith) c.value-item.is in
    let added : c.unwrap_or.result ≡ unwrap_or number (pos 0) = c.unwrap_or.ensures ∙ ap (λ (n : Option ℤ). unwrap_or n (pos 0)) c.whole-number.ensures in
    let sum = ap total more ∙ total-more numbers number in
    record {
      summed = omega (arith, ints, sum, added);
      empty =
          (λ i. c.loop-value.invariant.empty i && (none-is c.whole-number.result c.is_none-is_empty.result c.is_none-is_empty.ensures) i)
          ∙ ap (λ (n : Option ℤ). is_nil numbers && is_none n) c.whole-number.ensures
          ∙ sym (ap is_nil more ∙ is_nil-more numbers number);
      low = omega (arith, ints);
      high = omega (arith, ints);
    }
