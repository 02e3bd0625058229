use Rattle.std.proofs.Common.{◌≡◌}
use Rattle.generated_changes.specs.Generated.{lines_of, number_after}
use Rattle.generated_changes.proofs.whole.lines_of.Given as goal

abbrev pub invariant-loop-made : goal.invariant-loop-made
invariant-loop-made l = (l.number ≡ number_after l.made l.from) × (l.lines ≡ lines_of l.from l.made)
