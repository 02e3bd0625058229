use Rattle.std.proofs.Common.{rules, ◌≡◌, ◌++◌, ◌∷◌, [], ap, ◌∙◌}
use Rattle.std.specs.List.{list_all}
use Rattle.query_answers.specs.Discovery.{gives_rows, is_found}
use Rattle.query_answers.proofs.Found.{found_turn}
use Rattle.query_answers.proofs.discovery.found_packs.Goals as goal

pub loop-pack-preserved : goal.loop-pack-preserved
loop-pack-preserved g c =
    let i = c.loop-pack.invariant in
    let view = g.V.Tables.rows_of c.args.view.now in
    let this : c.in_ok-all_give_rows.field-0 ≡ is_found view c.pack-item.result = c.in_ok-all_give_rows.ensures ∙ ap (list_all (gives_rows view)) c.as_slice.ensures in
    let pushed : c.push.new.self.items ≡ c.loop-pack.found.items ++ c.in_ok-all_give_rows.field-0 ∷ [] = search rules in
    record {
      found = found_turn view c.as_slice-pack-items.result.now c.loop-pack.pack-index c.pack-item.result c.loop-pack-test.true c.pack-item.is c.loop-pack.found.items c.push.new.self.items
          c.in_ok-all_give_rows.field-0 i.found this pushed;
      source = i.source;
    }
