use Rattle.std.proofs.Common.{◌++◌, ◌∷◌, [], ◌∙◌, sym, arith}
use Rattle.std.specs.Prelude.{option_map}
use Rattle.std.specs.Borrow.{Bor}
use Rattle.std.proofs.lemmas.List.FromFn.{map-range_with_len_more}
use Rattle.sql_query.specs.declared.query.Query.{Query}
use Rattle.sql_query.specs.Resolved.{query_of}
use Rattle.fleet_query.specs.Wanted.{wanted_rows}
use Rattle.fleet_query.proofs.filling.wanted_rows.Goals as goal

pub loop-place-preserved : goal.loop-place-preserved
loop-place-preserved c =
    let rows_of = wanted_rows (option_map (λ (query : Bor Query). query_of query.now) c.args.query) c.args.frames.now in
    let place = c.loop-place.place in
    c.in_ok-push.ensures.ok ∙ (λ k. c.loop-place.invariant k ++ c.in_ok-rows_if_wanted.ensures k ∷ []) ∙ sym (map-range_with_len_more rows_of 0 place place (omega arith))
