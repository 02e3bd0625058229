use Rattle.std.proofs.Common.{◌≡◌, ◌≤◌}
use Rattle.batch_forwarder.proofs.Polled.{HasPolled}
use Rattle.batch_forwarder.proofs.polling.poll_marks.Given as goal

abbrev pub invariant-loop : goal.invariant-loop
invariant-loop g l = record {
  polled : HasPolled g.L.Link.tells l.host (g.L.Link.waiting l.fn.link) (g.L.Link.waiting l.link) l.fn.forwarder l.forwarder l.fn.marks l.marks l.counter;
  sent : g.L.Link.tells → g.L.Link.sent l.link ≡ g.L.Link.sent l.fn.link;
  later : g.L.Link.faults l.fn.link ≤ g.L.Link.faults l.link;
}
