use Rattle.keeper_sqlite.proofs.Commits.{known_is_told, one_is_told, success_is_told, unknown_is_told}
use Rattle.keeper_sqlite.proofs.connection.ConnectionKeeperKeeper.seal.Goals as goal

pub returns-clause-whole : goal.returns-clause-whole
returns-clause-whole g c = rw c.told.ensures.value (one_is_told _ _ c.seal-sealed.result c.seal-sealed.ensures.whole)

pub returns-clause-sealed : goal.returns-clause-sealed
returns-clause-sealed g c = λ clean. rw c.told.ensures.value (success_is_told _ c.seal-sealed.result (c.seal-sealed.ensures.sealed clean))

pub returns-clause-known : goal.returns-clause-known
returns-clause-known g c = rw c.told.ensures.value (known_is_told c.seal-sealed.result c.is_ok-self.result c.is_ok-self.ensures.value)

pub returns-clause-unknown : goal.returns-clause-unknown
returns-clause-unknown g c = rw c.told.ensures.value (unknown_is_told c.seal-sealed.result c.is_ok-self.result c.is_ok-self.ensures.value)
