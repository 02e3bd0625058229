use Rattle.frame_laws.proofs.laws.fetched_is_numbered.Goals as goal
use Rattle.frame_laws.proofs.Fetched.{fetched_is_numbered}

pub returns : goal.returns
returns c = fetched_is_numbered
