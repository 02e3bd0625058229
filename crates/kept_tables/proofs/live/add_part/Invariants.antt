use Rattle.std.proofs.Common.{◌≡◌, ◌++◌, map, filter, take, drop, slice_index}
use Rattle.std.specs.Prelude.{zip}
use Rattle.entry_model.specs.Values.{is_above}
use Rattle.kept_tables.specs.Loads.{event_of}
use Rattle.kept_tables.proofs.live.add_part.Given as goal

abbrev pub invariant-loop-number : goal.invariant-loop-number
invariant-loop-number l = record {
  floor : l.floor ≡ slice_index l.floors l.table.0;
  left : l.left.rest.items ≡ drop l.number-index l.initial.left.rest.items;
  live : l.live.items ≡ l.initial.live.items ++ filter (is_above (slice_index l.floors)) (map (event_of l.table l.moment) (zip (take l.number-index l.number-items) l.initial.left.rest.items));
}
