use Rattle.std.proofs.Common.{◌≡◌, ◌++◌, [], ◌∷◌, ℕ, List, IfOk, ap, ◌∙◌, flat_map, subst}
use Rattle.osq_value.specs.declared.value.Value.{Value}
use Rattle.std.specs.Prelude.{true}
use Rattle.result_batches.specs.Labels.{labels_from}
use Rattle.result_batches.proofs.Labelled.{labelled_object}
use Rattle.osq_program.specs.Querying.{labelled_lines, row_lines}
use Rattle.osq_program.proofs.query.lines_of.Goals as goal

same_lines : (names : List (List ℕ)) (labels : List (List ℕ)) (rows : List (List Value)) → labels ≡ labels_from true names → labelled_lines labels rows ≡ row_lines names rows
same_lines names labels rows is = ap (λ (ls : List (List ℕ)). labelled_lines ls rows) is ∙ (λ i. flat_map (λ row. labelled_object names row i ++ 10 ∷ []) rows)

pub returns : goal.returns
returns c =
    subst (λ (text : List ℕ). IfOk c.labelled_lines.result (λ lines. lines ≡ text)) (same_lines c.args.names.now c.in_ok-labels.labels c.args.rows.now c.in_ok-labels.ensures) c.labelled_lines.ensures
