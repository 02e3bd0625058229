use Rattle.std.proofs.Common.{◌≡◌, drop, map}
use Rattle.sql_names.specs.Kinds.{mentioned_wrong}
use Rattle.sql_names.specs.Least.{lesser, least}
use Rattle.sql_scope.specs.Shown.{names_of}
use Rattle.sql_names.proofs.aggregates.mentions_wrong.Given as goal

abbrev pub invariant-loop-mention : goal.invariant-loop-mention
invariant-loop-mention l = lesser l.place (least (map (mentioned_wrong (names_of l.names)) (drop l.mention-index l.found))) ≡ least (map (mentioned_wrong (names_of l.names)) l.found)
