use Rattle.std.proofs.Common.{◌≡◌, drop}
use Rattle.sql_names.specs.Bare.{has_extreme}
use Rattle.sql_names.proofs.bare.has_extreme.Given as goal

abbrev pub invariant-loop-mention : goal.invariant-loop-mention
invariant-loop-mention l = has_extreme l.found ≡ has_extreme (drop l.mention-index l.found)
