use Rattle.std.proofs.Common.{◌≡◌, length}
use Rattle.osq_value.specs.Casts.{behind_blanks}
use Rattle.pack_rules.proofs.parts.behind_blanks.Given as goal

abbrev pub invariant-loop-rest : goal.invariant-loop-rest
invariant-loop-rest l = behind_blanks l.rest ≡ behind_blanks l.fn.text

abbrev pub decreases-loop-rest : goal.decreases-loop-rest
decreases-loop-rest l = length l.rest
