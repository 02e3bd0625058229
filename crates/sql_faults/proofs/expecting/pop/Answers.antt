use Rattle.std.proofs.Common.{arith, vec_len}
use Rattle.sql_faults.proofs.Turn.{pops}
use Rattle.sql_faults.proofs.expecting.pop.Goals as goal

pub returns-clause-taken : goal.returns-clause-taken
returns-clause-taken c = pops c.args.parts.now.items c.pop.new.self.items c.pop.result (vec_len c.args.parts.now) (vec_len c.pop.new.self) c.pop.ensures.items (omega (arith, c.args.parts.now.ok.0)) c.pop.ensures.cases
