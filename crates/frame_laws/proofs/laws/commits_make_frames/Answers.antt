use Rattle.frame_laws.proofs.laws.commits_make_frames.Goals as goal
use Rattle.frame_laws.proofs.Made.{commits_make_frames}

pub returns : goal.returns
returns c = commits_make_frames
