use Rattle.batch_forwarder.proofs.Framed.{commits_are_sent}
use Rattle.batch_forwarder.proofs.laws.commits_are_sent.Goals as goal

pub returns : goal.returns
returns c = commits_are_sent
