use Rattle.std.proofs.Common.{◌≡◌, ◌≤◌}
use Rattle.batch_forwarder.specs.Sending.{IsOver}
use Rattle.batch_forwarder.proofs.Sent.{HasSent}
use Rattle.batch_forwarder.proofs.sending.send_frames.Given as goal

abbrev pub invariant-loop : goal.invariant-loop
invariant-loop g l = record {
  acked : l.forwarder.acked ≡ l.fn.forwarder.acked;
  sealed : l.forwarder.sealed ≡ l.fn.forwarder.sealed;
  kept : g.K.Keeper.tells → g.K.Keeper.kept l.keeper ≡ g.K.Keeper.kept l.fn.keeper;
  sent : g.K.Keeper.tells → g.L.Link.tells → IsOver (g.K.Keeper.kept l.fn.keeper) l.fn.forwarder
      → HasSent l.host (g.K.Keeper.kept l.fn.keeper) (g.L.Link.sent l.fn.link) (g.L.Link.sent l.link) l.forwarder l.counter;
  waiting : g.L.Link.tells → g.L.Link.waiting l.link ≡ g.L.Link.waiting l.fn.link;
  keeper : g.K.Keeper.faults l.fn.keeper ≤ g.K.Keeper.faults l.keeper;
  link : g.L.Link.faults l.fn.link ≤ g.L.Link.faults l.link;
}
