use Rattle.std.proofs.Common.{◌≡◌, List, map, take}
use Rattle.std.specs.List.{AllByRecursion}
use Rattle.kept_tables.proofs.shown.all_of.Given as goal

abbrev pub invariant-loop-row : goal.invariant-loop-row
invariant-loop-row g l = (values : List g.row.T.Denot) → AllByRecursion g.T.Shown.is_held values → l.row-items ≡ map g.T.Shown.shown values → l.values ≡ take l.row-index values
