use Rattle.std.proofs.Common.{[], ◌∷◌, ◌++◌, ap, ◌∙◌}
use Rattle.pack_rules.specs.declared.schedule.Scheduled.{Scheduled}
use Rattle.query_cursors.specs.Places.{place_of}
use Rattle.query_cursors.proofs.Placing.{places_more}
use Rattle.query_cursors.proofs.index.find_places.Goals as goal

pub loop-scheduled-preserved : goal.loop-scheduled-preserved
loop-scheduled-preserved c =
    let runs = c.args.runs.now in
    let queries = c.args.queries.now in
    let at = c.loop-scheduled.scheduled-index in
    let d = c.scheduled-item.result in
    let found = c.known_place.ensures ∙ c.in_ok-known.ensures d.key ∙ ap (λ (s : Scheduled). place_of runs s.key) c.scheduled-item.is in
    c.in_ok-push.ensures.items
    ∙ (λ i. c.loop-scheduled.invariant i ++ found i ∷ [])
    ∙ places_more runs queries at d c.loop-scheduled-test.true
