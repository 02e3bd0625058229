use Rattle.std.proofs.Common.{◌∙◌, sym}
use Rattle.publisher_core.proofs.Giving.{over_dry}
use Rattle.publisher_core.proofs.publisher.Publisher.at_end.Goals as goal

pub returns-clause-all : goal.returns-clause-all
returns-clause-all g c = λ is given start stream s. over_dry c.args.self.now given start stream (sym c.has_nothing_left.ensures ∙ is) s
