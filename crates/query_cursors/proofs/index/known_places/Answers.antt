use Rattle.std.proofs.Common.{Option, ℕ, get_or, sym, ap, ◌∙◌}
use Rattle.pack_rules.specs.Keys.{same_key}
use Rattle.query_cursors.specs.Known.{first_known}
use Rattle.query_cursors.proofs.Placing.{place_more}
use Rattle.query_cursors.proofs.index.known_places.Goals as goal

pub loop-at-preserved : goal.loop-at-preserved
loop-at-preserved c query =
    let runs = c.args.runs.now in
    let at = c.loop-at.at in
    let d = c.index-runs-at.result in
    let run = get_or runs at d in
    c.in_ok-note.ensures query
    ∙ ap (λ (o : Option ℕ). first_known o (same_key run.key query) at) (c.loop-at.invariant query)
    ∙ sym (place_more runs at d query c.loop-at-test.true)
