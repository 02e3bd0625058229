use Rattle.std.proofs.Common.{◌++◌, ◌∙◌, ap}
use Rattle.result_batches.specs.Labels.{labelled}
use Rattle.result_batches.proofs.Labelled.{labelled_object}
use Rattle.result_batches.proofs.object.row_object.Goals as goal

pub returns : goal.returns
returns c =
    c.in_ok-push_object.ensures ∙ ap (λ text. text ++ labelled c.in_ok-labels.labels c.args.row.now) c.new-text.ensures
    ∙ ap (λ labels. labelled labels c.args.row.now) c.in_ok-labels.ensures
    ∙ labelled_object c.args.names.now c.args.row.now
