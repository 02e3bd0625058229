use Rattle.std.proofs.Common.{◌≡◌, map}
use Rattle.kept_tables.specs.Sealing.{set_change, with_changes}
use Rattle.kept_tables.proofs.sealing.Sealing.add_set_parts.Given as goal

abbrev pub invariant-loop-text : goal.invariant-loop-text
invariant-loop-text l = l.self ≡ with_changes l.initial.self (map (set_change l.table.0) l.yielded)
