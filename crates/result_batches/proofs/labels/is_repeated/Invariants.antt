use Rattle.std.proofs.Common.{◌≡◌, [], take, drop, ◌+◌, false, get_or, bytes_eq}
use Rattle.std.specs.List.{list_any}
use Rattle.result_batches.proofs.labels.is_repeated.Given as goal

abbrev pub invariant-loop-other : goal.invariant-loop-other
invariant-loop-other l = record {
  none : list_any (bytes_eq (get_or l.names l.at [])) (take l.other-index l.other-items) ≡ false;
  source : l.other-items ≡ drop (l.at + 1) l.names;
}
