use Rattle.std.proofs.Common.{◌≡◌, map}
use Rattle.sql_groups.proofs.sorted.results.Given as goal

abbrev pub invariant-loop-keyed : goal.invariant-loop-keyed
invariant-loop-keyed l = l.rows ≡ map (λ row. row.row) l.yielded
