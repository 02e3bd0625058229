use Rattle.std.proofs.Common.{◌∙◌, ◌-◌, get_or}
use Rattle.session_state.proofs.Marked.{stops, found_back}
use Rattle.session_state.proofs.state.first_mark.Goals as goal

pub returns : goal.returns
returns c =
    let marks = c.args.marks.now in
    let at = c.loop-at.at in
    let position = c.args.position in
    c.mark_at.ensures
    ∙ found_back 0 position marks at c.requires c.loop-at.invariant.within (stops c.reaches_back.result at position (get_or marks (at - 1) 0) c.reaches_back.ensures c.loop-at-test.false) c.loop-at.invariant.behind
