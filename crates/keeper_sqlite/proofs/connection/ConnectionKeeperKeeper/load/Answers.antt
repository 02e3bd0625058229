use Rattle.keeper_sqlite.proofs.Commits.{value_is_told}
use Rattle.keeper_sqlite.proofs.connection.ConnectionKeeperKeeper.load.Goals as goal

pub returns-clause-loaded : goal.returns-clause-loaded
returns-clause-loaded g c = λ clean. rw c.told.ensures.value (value_is_told _ c.load-loaded.result (c.load-loaded.ensures clean))
