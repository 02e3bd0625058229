use Rattle.std.proofs.Common.{◌≡◌, ◌≤◌, length}
use Rattle.fleet_query.proofs.names.last_frames.Given as goal

abbrev pub invariant-loop-last : goal.invariant-loop-last
invariant-loop-last l = record {
  lasts : l.lasts ≡ l.yielded;
  few : length l.lasts ≤ 90;
}
