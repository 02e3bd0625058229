use Rattle.std.proofs.Common.{◌≡◌, ◌==◌, false, length, rules}
use Rattle.std.proofs.lemmas.Result.{IfOk-weaker}
use Rattle.result_batches.proofs.Labelled.{difference_some}
use Rattle.result_batches.proofs.lines.difference_of_some.Goals as goal

pub returns-else-is_empty : goal.returns-else-is_empty
returns-else-is_empty c =
    let some : (length c.args.rows.now == 0) ≡ false = search rules in
    IfOk-weaker c.difference.result _ _ (λ line is. difference_some c.args.head.now c.args.decoration.now line c.args.labels.now c.args.rows.now some is) c.difference.ensures
