use Rattle.std.proofs.Common.{◌≡◌, drop, map}
use Rattle.sql_names.specs.Kinds.{using_missing}
use Rattle.sql_names.specs.Least.{lesser, least}
use Rattle.sql_scope.specs.Shown.{names_of}
use Rattle.sql_names.proofs.faults.source_missing.Given as goal

abbrev pub invariant-loop-name : goal.invariant-loop-name
invariant-loop-name l = lesser l.place (least (map (using_missing (names_of l.names) l.number) (drop l.name-index l.name-items))) ≡ least (map (using_missing (names_of l.names) l.number) l.name-items)
