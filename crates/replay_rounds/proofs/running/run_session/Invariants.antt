use Rattle.std.proofs.Common.{◌≡◌, ◌≤◌, false}
use Rattle.daemon_rounds.specs.Keeping.{GoesOn}
use Rattle.replay_rounds.specs.Noting.{HasNoted, IsGrown, places_of}
use Rattle.forward_rounds.specs.Forwarding.{view_of}
use Rattle.replay_rounds.specs.Called.{HasSealedOf}
use Rattle.replay_rounds.specs.Fixed.{fixed_of, linked_by}
use Rattle.replay_rounds.specs.Standing.{IsReady}
use Rattle.replay_rounds.proofs.Looping.{IsLooping}
use Rattle.replay_rounds.proofs.running.run_session.Given as goal

abbrev pub invariant-loop : goal.invariant-loop
invariant-loop g l = record {
  looping : IsLooping g.T.TakesRound.order g.K.Keeper.tells g.O.Sink.tells g.S.Source.tells g.S.Source.left g.S.Source.faults l.basis.setup l.basis.configured.config l.basis.configured.documents l.fn.sources (g.K.Keeper.kept l.fn.keeper) (g.O.Sink.written l.fn.results) (linked_by g.L.Link l.basis.setup l.fn.link) g.C.Clock.reads l.fn.clock
      l.clock l.counter (g.K.Keeper.kept l.keeper) (g.O.Sink.written l.results) l.feeds l.sources l.last l.state;
  linked : looping.running.added.linked ≡ view_of g.L.Link l.link;
  unlinked : l.basis.setup.forward ≡ false → l.link ≡ l.fn.link;
  link_later : g.L.Link.faults l.fn.link ≤ g.L.Link.faults l.link;
  ready : IsReady l.feeds l.last l.state;
  sealed : g.K.Keeper.counts → l.basis.setup.forward ≡ false → HasSealedOf g.K.Keeper l.fn.keeper l.keeper l.counter;
  goes_on : GoesOn g.K.Keeper.tells (g.K.Keeper.kept l.keeper) l.state;
  keeper_later : g.K.Keeper.faults l.fn.keeper ≤ g.K.Keeper.faults l.keeper;
  results_later : g.O.Sink.faults l.fn.results ≤ g.O.Sink.faults l.results;
  status_later : g.O.Sink.faults l.fn.status ≤ g.O.Sink.faults l.status;
  noted : g.O.Sink.tells → IsGrown (g.O.Sink.written l.fn.status) (g.O.Sink.written l.status);
  told : g.O.Sink.tells → HasNoted (fixed_of g.T.TakesRound.order g.K.Keeper g.O.Sink g.S.Source g.L.Link l.basis l.fn.sources l.fn.keeper l.fn.results l.fn.link) l.basis.configured.notes (places_of (g.K.Keeper.kept l.fn.keeper) looping.running.added.entries) (g.O.Sink.written l.fn.status) (g.O.Sink.written l.status);
}
