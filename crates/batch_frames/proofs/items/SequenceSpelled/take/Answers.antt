use Rattle.std.proofs.Common.{sym, ◌∙◌}
use Rattle.batch_frames.proofs.Arrays.{read_all, read_more}
use Rattle.batch_frames.proofs.items.SequenceSpelled.take.Goals as goal

pub loop-alloc-preserved : goal.loop-alloc-preserved
loop-alloc-preserved g c = λ values tail hold is.
    read_more g.T.Spelled.text g.T.Spelled.is_held c.begins.ensures c.loop-alloc.rest.now c.in_ok-item.after.now c.behind_item-rest.result.now tail c.loop-alloc.items c.push.new.self values c.in_ok-item.item
    (c.loop-alloc.invariant values tail hold is) (sym c.loop-alloc-test.ensures) c.in_ok-item.ensures c.in_ok-push.ensures.ok c.behind_item-rest.ensures.value

pub returns : goal.returns
returns g c = λ value behind hold ended is.
    let read = read_all g.T.Spelled.text g.T.Spelled.is_held c.begins.ensures c.loop-alloc.rest.now behind c.loop-alloc.items value (c.loop-alloc.invariant value behind hold is) (sym c.loop-alloc-test.ensures) in
    (read.0, c.behind.ensures ∙ read.1)
