use Rattle.std.proofs.Common.{◌≡◌, map, take}
use Rattle.kept_tables.specs.Edits.{number}
use Rattle.kept_tables.proofs.changes.parameters_of.Given as goal

abbrev pub invariant-loop-number : goal.invariant-loop-number
invariant-loop-number l = l.parameters ≡ map number (take l.number-index l.numbers)
