use Rattle.daemon_rounds.proofs.Keeping.{finished_on, may_seal, settled_on, settled_tellable}
use Rattle.daemon_rounds.proofs.finishing.finish_tick.Goals as goal

pub seal-requires-clause-legal : goal.seal-requires-clause-legal
seal-requires-clause-legal g c told legal =
    may_seal g.K.Keeper.tells (g.K.Keeper.kept c.args.keeper.now) c.answer_and_settle.new.state (settled_on g.K.Keeper.tells (g.K.Keeper.kept c.args.keeper.now) c.args.state.now c.answer_and_settle.new.state c.requires.goes_on c.in-Ok.ensures.settled) told legal

pub seal-requires-clause-tellable : goal.seal-requires-clause-tellable
seal-requires-clause-tellable g c =
    settled_tellable c.args.state.now c.answer_and_settle.new.state c.in-Ok.ensures.settled c.requires.tellable

pub returns-in-Ok-seal-clause-done : goal.returns-in-Ok-seal-clause-done
returns-in-Ok-seal-clause-done g c =
    let sealed = c.in-Ok-seal.ensures in
    record {
      settled = c.answer_and_settle.new.state;
      settles = c.in-Ok.ensures.settled;
      taken = sealed.taken;
      kept = sealed.kept;
      goes_on = finished_on g.K.Keeper.tells (g.K.Keeper.kept c.args.keeper.now) (g.K.Keeper.kept c.seal.new.keeper) c.args.state.now c.answer_and_settle.new.state c.seal.new.state c.requires.goes_on c.in-Ok.ensures.settled sealed.taken sealed.kept;
      told = sealed.told;
    }
