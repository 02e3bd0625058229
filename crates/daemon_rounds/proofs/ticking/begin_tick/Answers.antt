use Rattle.daemon_rounds.proofs.Adding.{all_free, brings_one, none_claimed}
use Rattle.daemon_rounds.proofs.ticking.begin_tick.Goals as goal

pub returns-in-Ok-clause-ticked : goal.returns-in-Ok-clause-ticked
returns-in-Ok-clause-ticked c = brings_one _ _ _ c.in-Ok.ensures.ticked (all_free c.args.state.now c.tick.new.self _ c.in-Ok.ensures.claims)

pub returns-in-Ok-clause-free : goal.returns-in-Ok-clause-free
returns-in-Ok-clause-free c = none_claimed c.tick.new.self _ c.in-Ok.ensures.claims
