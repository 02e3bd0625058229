use Rattle.std.proofs.Common.{◌∙◌, ◌++◌, List, ap, sym, arith}
use Rattle.osq_value.specs.declared.value.Value.{Value}
use Rattle.fleet_query.specs.Tables.{cells}
use Rattle.fleet_query.proofs.Walked.{cells_more}
use Rattle.fleet_query.proofs.tables.cells_of.Goals as goal

pub loop-place-preserved : goal.loop-place-preserved
loop-place-preserved c =
    let frame = c.args.frame.now in
    let place = c.loop-place.place in
    let row = c.index-held-place.result in
    c.in_ok-push_cells.ensures ∙ ap (λ (rows : List (List Value)). rows ++ cells frame place row) c.loop-place.invariant
    ∙ sym (cells_more frame c.as_slice-held.result.now place row (omega arith) c.index-held-place.is)
