use Rattle.std.proofs.Common.{ℕ, ◌<◌, ◌∙◌, ◌++◌, ◌∷◌, [], List, append_assoc, length, map, take, ap, sym, arith}
use Rattle.std.specs.Prelude.{zip}
use Rattle.osq_value.specs.declared.value.Value.{Value}
use Rattle.fleet_query.specs.Tables.{cell}
use Rattle.fleet_query.proofs.Walked.{zip_all, zip_more}
use Rattle.fleet_query.proofs.tables.push_cells.Goals as goal

pub loop-at-preserved : goal.loop-at-preserved
loop-at-preserved c =
    let at = c.loop-at.at in
    let names = c.as_slice-names.result.now in
    let values = c.as_slice-values.result.now in
    let one = cell c.args.frame.now c.args.place in
    let name = c.index-names-at.result in
    let value = c.index-values-at.result in
    let before = map one (take at (zip names values)) in
    let named : at < length names = omega arith in
    let valued : at < length values = omega arith in
    c.in_ok-push.ensures.ok ∙ (λ k. c.loop-at.invariant k ++ c.in_ok-cell.ensures k ∷ [])
    ∙ append_assoc c.args.rows.now before (one (name, value) ∷ [])
    ∙ ap (λ (cells : List (List Value)). c.args.rows.now ++ cells) (sym (zip_more one names values at name value named valued c.index-names-at.is c.index-values-at.is))

pub returns : goal.returns
returns c =
    let at = c.loop-at.at in
    let names = c.as_slice-names.result.now in
    let values = c.as_slice-values.result.now in
    let frame = c.args.frame.now in
    let one = cell frame c.args.place in
    let old = c.args.rows.now in
    let all = zip_all names values at (omega arith) in
    c.loop-at.invariant ∙ ap (λ (pairs : List (List ℕ × Value)). old ++ map one pairs) all
    ∙ ap (λ (those : List (List ℕ)). old ++ map one (zip those values)) c.as_slice-names.ensures
    ∙ ap (λ (those : List Value). old ++ map one (zip frame.names those)) c.as_slice-values.ensures
