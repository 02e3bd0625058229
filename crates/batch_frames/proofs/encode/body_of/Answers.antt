use Rattle.std.proofs.Common.{◌++◌, ap, ◌∙◌}
use Rattle.batch_frames.specs.Parts.{query_part, sender_part, slice_part, table_part}
use Rattle.batch_frames.proofs.Framed.{body_is}
use Rattle.batch_frames.proofs.encode.body_of.Goals as goal

pub returns : goal.returns
returns c =
    let f = c.args.frame.now in
    let b = f.batch in
    c.in_ok-push_table.ensures
    ∙ ap (λ x. x ++ table_part f.names b.rows)
    (c.in_ok-push_slice.ensures ∙ ap (λ x. x ++ slice_part b.lo b.hi b.cut b.moment)
    (c.in_ok-push_query.ensures ∙ ap (λ x. x ++ query_part b.query) (c.in_ok-push_sender.ensures ∙ ap (λ x. x ++ sender_part f.host b.number) c.in_ok-body.ensures)))
    ∙ body_is f.host f.names b
