use Rattle.std.proofs.Common.{◌≡◌, drop}
use Rattle.sql_names.specs.Kinds.{has_aggregate}
use Rattle.sql_names.proofs.aggregates.has_aggregate.Given as goal

abbrev pub invariant-loop-mention : goal.invariant-loop-mention
invariant-loop-mention l = has_aggregate l.found ≡ has_aggregate (drop l.mention-index l.found)
