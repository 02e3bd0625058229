use Rattle.batch_forwarder.proofs.Following.{acks_may_follow}
use Rattle.batch_forwarder.proofs.laws.acks_may_follow.Goals as goal

pub returns : goal.returns
returns c = acks_may_follow
