use Rattle.std.proofs.Common.{◌≡◌, ℕ, List, [], ◌∷◌, ◌++◌, map, filter, take, drop, slice_index, get_or, sym, ap, ap₂, ◌∙◌}
use Rattle.std.specs.Prelude.{zip}
use Rattle.osq_value.specs.declared.value.Value.{Value}
use Rattle.entry_model.specs.Values.{is_above}
use Rattle.kept_tables.specs.Loads.{event_of}
use Rattle.kept_tables.proofs.Joining.{live-more}
use Rattle.kept_tables.proofs.Places.{zip_more, zip_done, drop_more, none_left}
use Rattle.kept_tables.proofs.live.add_part.Goals as goal

pub returns-in-None : goal.returns-in-None
returns-in-None c =
    let i = c.loop-number.invariant in
    let numbers = c.as_slice-number-items.result.now in
    let rows = c.into_iter-left.result.rest.items in
    let none : c.loop-number.left.rest.items ≡ [] = none_left c.loop-number.left.rest.items (sym c.loop-number.left.rest.ok.0 ∙ c.in-None.ensures.cases.0) in
    let all = zip_done numbers rows c.loop-number.number-index (sym i.left ∙ none) in
    let are_numbers : numbers ≡ c.args.part.numbers = c.as_slice-number-items.ensures in
    let are_rows : rows ≡ c.args.part.rows = c.into_iter-left.ensures.rest ∙ c.into_vec.ensures in
    i.live
    ∙ ap (λ (pairs : List (ℕ × List Value)). c.args.live.now.items ++ filter (is_above (slice_index c.args.floors.now)) (map (event_of c.args.part.table c.args.part.moment) pairs))
    (all ∙ ap₂ (λ (ns : List ℕ) (rs : List (List Value)). zip ns rs) are_numbers are_rows)

pub loop-number-preserved : goal.loop-number-preserved
loop-number-preserved c =
    let i = c.loop-number.invariant in
    let numbers = c.as_slice-number-items.result.now in
    let rows = c.into_iter-left.result.rest.items in
    let at = c.loop-number.number-index in
    let here : drop at rows ≡ c.in-Some.row ∷ c.next.new.self.rest.items = sym i.left ∙ c.in-Some.ensures.cases.0 in
    let more = zip_more numbers rows at 0 c.in-Some.row c.next.new.self.rest.items c.loop-number-test.true here in
    record {
      floor = i.floor;
      left = sym (drop_more rows at c.in-Some.row c.next.new.self.rest.items here);
      live = live-more c.args.floors.now c.args.part.table c.args.part.moment c.floor_of-floor.result c.args.live.now.items c.loop-number.live.items c.add_live.new.live.items (zip (take at numbers) rows) (get_or numbers at 0, c.in-Some.row) i.floor i.live c.in_ok-add_live.ensures
          ∙ ap (λ (pairs : List (ℕ × List Value)). c.args.live.now.items ++ filter (is_above (slice_index c.args.floors.now)) (map (event_of c.args.part.table c.args.part.moment) pairs)) (sym more);
    }
