use Rattle.std.proofs.Common.{◌++◌, codes, ap, ◌∙◌}
use Rattle.result_batches.specs.Labels.{labelled}
use Rattle.result_batches.specs.Lines.{end_text}
use Rattle.result_batches.proofs.Labelled.{line_grown}
use Rattle.result_batches.proofs.lines.push_line.Goals as goal

pub returns : goal.returns
returns c =
    let action = codes ",\"action\":\"added\",\"columns\":" in
    let row = labelled c.args.labels.now c.args.row.now in
    let end = end_text c.args.decoration.now in
    c.in_ok-push_end.ensures
    ∙ ap (λ line. line ++ end) (c.in_ok-push_object.ensures ∙ ap (λ line. line ++ row) (c.in_ok-extend-2.ensures.ok ∙ ap (λ line. line ++ action) (c.in_ok-extend.ensures.ok ∙ ap (λ head. c.args.lines.now ++ head) c.as_slice.ensures)))
    ∙ line_grown c.args.lines.now c.args.head.now action row end
