use Rattle.world_laws.proofs.Lines.{hosts_are_prefixes}
use Rattle.world_laws.proofs.laws.hosts_are_prefixes.Goals as goal

pub returns : goal.returns
returns c = hosts_are_prefixes
