use Rattle.source_feeds.proofs.Joins.{count_lines}
use Rattle.source_feeds.proofs.laws.counting.Goals as goal

pub returns : goal.returns
returns c = count_lines
