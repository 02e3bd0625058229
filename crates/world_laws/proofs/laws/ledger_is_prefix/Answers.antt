use Rattle.world_laws.proofs.Prefixes.{ledger_is_prefix}
use Rattle.world_laws.proofs.laws.ledger_is_prefix.Goals as goal

pub returns : goal.returns
returns c = ledger_is_prefix
