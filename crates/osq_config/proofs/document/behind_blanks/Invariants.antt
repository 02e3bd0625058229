use Rattle.std.proofs.Common.{◌≡◌, length}
use Rattle.osq_config.specs.Documents.{behind_blanks}
use Rattle.osq_config.proofs.document.behind_blanks.Given as goal

abbrev pub invariant-loop-rest : goal.invariant-loop-rest
invariant-loop-rest l = behind_blanks l.line ≡ behind_blanks l.rest

abbrev pub decreases-loop-rest : goal.decreases-loop-rest
decreases-loop-rest l = length l.rest
