use Rattle.std.proofs.Common.{◌≡◌, drop, map}
use Rattle.sql_scope.specs.declared.mention.Mention.{Mention}
use Rattle.sql_names.specs.Least.{lesser, least}
use Rattle.sql_names.specs.Results.{aggregate_place}
use Rattle.sql_names.proofs.results.least_aggregate.Given as goal

abbrev pub invariant-loop-mention : goal.invariant-loop-mention
invariant-loop-mention l = lesser l.place (least (map (λ (m : Mention). aggregate_place m.what) (drop l.mention-index l.found))) ≡ least (map (λ (m : Mention). aggregate_place m.what) l.found)
