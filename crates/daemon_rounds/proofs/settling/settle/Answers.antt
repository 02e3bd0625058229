use Rattle.daemon_rounds.proofs.Adding.{brings_all, still_free}
use Rattle.daemon_rounds.proofs.Settled.{due_same, none_owed}
use Rattle.daemon_rounds.proofs.settling.settle.Goals as goal

pub returns-clause-expired : goal.returns-clause-expired
returns-clause-expired c = brings_all _ _ _ c.in_ok-expire.ensures.expired (still_free c.args.state.now c.expire.new.self c.expire.ensures.claims)

pub returns-clause-settled : goal.returns-clause-settled
returns-clause-settled c = none_owed _ _ c.is_state.ensures c.in_ok-expire.ensures.expired

pub returns-clause-due : goal.returns-clause-due
returns-clause-due c = due_same _ _ c.is_state.ensures c.in_ok-expire.ensures.expired
