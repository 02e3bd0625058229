use Rattle.std.proofs.Common.{◌≡◌, ◌+◌, ◌≤◌, ◌++◌, take}
use Rattle.event_store.proofs.recorded.share_tables.Given as goal

abbrev pub invariant-loop-rows : goal.invariant-loop-rows
invariant-loop-rows g l = record {
  tables : l.all.items ≡ l.initial.all.items ++ take l.rows-index l.tables;
  steps : l.steps ≤ l.initial.steps + l.rows-index;
}
