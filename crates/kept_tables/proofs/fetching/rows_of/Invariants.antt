use Rattle.std.proofs.Common.{◌≡◌, map}
use Rattle.kept_tables.specs.declared.fetching.BatchPart.{BatchPart}
use Rattle.kept_tables.specs.Groups.{joined}
use Rattle.kept_tables.proofs.fetching.rows_of.Given as goal

abbrev pub invariant-loop-part : goal.invariant-loop-part
invariant-loop-part l = l.rows ≡ joined (map (λ (part : BatchPart). part.rows) l.yielded)
