use Rattle.frame_laws.proofs.laws.fetched_is_committed.Goals as goal
use Rattle.frame_laws.proofs.Fetched.{fetched_is_committed}

pub returns : goal.returns
returns c = fetched_is_committed
