use Rattle.std.proofs.Common.{◌++◌, sym, ap, ◌∙◌, arith, append-nil}
use Rattle.result_batches.proofs.Labelled.{cells_end}
use Rattle.result_batches.proofs.object.push_cells.Goals as goal

pub returns : goal.returns
returns c =
    sym (append-nil c.loop-at.line) ∙ ap (λ l. c.loop-at.line ++ l) (sym (cells_end c.args.labels.now c.args.row.now c.loop-at.at (grind arith))) ∙ c.loop-at.invariant
