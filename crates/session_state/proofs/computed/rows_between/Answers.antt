use Rattle.std.proofs.Common.{◌≡◌, ◌<◌, ◌^◌, ◌++◌, [], ◌∷◌, ℕ, length, drop, take, get_or, sym, ap, ◌∙◌, arith}
use Rattle.std.specs.List.{take-map}
use Rattle.std.proofs.Math.ListN.{drop_of_length-le}
use Rattle.std.proofs.lemmas.List.{length-map, length-take, drop-append-le}
use Rattle.query_cursors.specs.Due.{run_of}
use Rattle.session_state.specs.Computed.{query_shown, schedule_shown}
use Rattle.session_state.proofs.Counted.{known_run, low_count, low_moment}
use Rattle.session_state.proofs.Placed.{run_among_is, schedule_more}
use Rattle.session_state.proofs.computed.rows_between.Goals as goal

pub query_row-requires-clause-count : goal.query_row-requires-clause-count
query_row-requires-clause-count c =
    let v = c.args.cursors.now in
    let queries = c.args.queries.now in
    let d = c.index-queries-at.result in
    let within : c.loop-at.at < length queries = (let to = c.requires.within in let inside = c.loop-at-test.true in omega (arith, to, inside)) in
    let run = (c.run_among-run.ensures ∙ run_among_is v c.args.places.now queries c.loop-at.at d c.requires.places within) in
    rw run (low_count (2 ^ 62) _ (omega arith) (known_run (2 ^ 62) v.runs (get_or queries c.loop-at.at d).key c.requires.runs))

pub query_row-requires-clause-moment : goal.query_row-requires-clause-moment
query_row-requires-clause-moment c =
    let v = c.args.cursors.now in
    let queries = c.args.queries.now in
    let d = c.index-queries-at.result in
    let within : c.loop-at.at < length queries = (let to = c.requires.within in let inside = c.loop-at-test.true in omega (arith, to, inside)) in
    let run = (c.run_among-run.ensures ∙ run_among_is v c.args.places.now queries c.loop-at.at d c.requires.places within) in
    rw run (low_moment (2 ^ 62) _ (known_run (2 ^ 62) v.runs (get_or queries c.loop-at.at d).key c.requires.runs))

pub loop-at-init : goal.loop-at-init
loop-at-init c =
    let v = c.args.cursors.now in
    let queries = c.args.queries.now in
    let from = c.args.from in
    let bounds = c.requires.within in
    let long : length (schedule_shown v.runs (take from queries)) ≡ length (take from queries) = length-map (take from queries) _ in
    let short = length-take from queries in
    record {
      rows = c.in_ok-rows.ensures ∙ sym (drop_of_length-le (schedule_shown v.runs (take from queries)) (omega (arith, long, short, bounds)));
      past = omega arith;
      within = bounds.0;
    }

pub loop-at-preserved : goal.loop-at-preserved
loop-at-preserved c =
    let v = c.args.cursors.now in
    let queries = c.args.queries.now in
    let from = c.args.from in
    let at = c.loop-at.at in
    let d = c.index-queries-at.result in
    let past = c.loop-at.invariant.past in
    let inside = c.loop-at-test.true in
    let within : at < length queries = (let to = c.requires.within in omega (arith, to, inside)) in
    let run = (c.run_among-run.ensures ∙ run_among_is v c.args.places.now queries c.loop-at.at d c.requires.places within) in
    let long : length (schedule_shown v.runs (take at queries)) ≡ length (take at queries) = length-map (take at queries) _ in
    let short = length-take at queries in
    let before = schedule_shown v.runs (take at queries) in
    let row = c.in_ok-shared.ensures ∙ c.in_ok-row.ensures ∙ (λ i. query_shown (c.index-queries-at.is i) (run i)) in
    record {
      rows =
          c.in_ok-push.ensures.ok
          ∙ (λ i. c.loop-at.invariant.rows i ++ row i ∷ [])
          ∙ sym (drop-append-le from before (query_shown (get_or queries at d) (run_of v.runs (get_or queries at d).key) ∷ []) (omega (arith, long, short, past, within)))
          ∙ ap (drop from) (schedule_more v.runs queries at d within);
      past = omega (arith, past);
      within = omega (arith, inside);
    }

pub returns : goal.returns
returns c =
    let v = c.args.cursors.now in
    let queries = c.args.queries.now in
    let within = c.loop-at.invariant.within in
    let done = c.loop-at-test.false in
    let end : c.loop-at.at ≡ c.args.to = omega (arith, within, done) in
    c.loop-at.invariant.rows ∙ ap (drop c.args.from) (ap (λ (at : ℕ). schedule_shown v.runs (take at queries)) end ∙ sym (take-map _ c.args.to queries))
