use Rattle.frame_laws.proofs.laws.fetched_makes_frame.Goals as goal
use Rattle.frame_laws.proofs.Fetched.{fetched_makes_frame}

pub returns : goal.returns
returns c = fetched_makes_frame
