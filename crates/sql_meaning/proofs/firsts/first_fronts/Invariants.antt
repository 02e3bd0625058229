use Rattle.std.proofs.Common.{◌≡◌, map, take}
use Rattle.sql_meaning.specs.Firsts.{firsts_by}
use Rattle.sql_meaning.specs.Fronts.{fronted}
use Rattle.sql_meaning.specs.Worths.{worths}
use Rattle.sql_meaning.proofs.firsts.first_fronts.Given as goal

abbrev pub invariant-loop-items : goal.invariant-loop-items
invariant-loop-items l = l.firsts.keys ≡ map (fronted l.width) (firsts_by (λ row. take l.width (worths row)) l.yielded)
