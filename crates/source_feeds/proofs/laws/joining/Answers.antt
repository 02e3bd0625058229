use Rattle.source_feeds.proofs.Joins.{reads_more, reads_own, rise_on}
use Rattle.source_feeds.proofs.laws.joining.Goals as goal

pub returns-clause-own : goal.returns-clause-own
returns-clause-own c = reads_own

pub returns-clause-on : goal.returns-clause-on
returns-clause-on c = reads_more

pub returns-clause-rise : goal.returns-clause-rise
returns-clause-rise c = rise_on
