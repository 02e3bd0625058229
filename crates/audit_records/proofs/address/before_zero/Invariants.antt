use Rattle.std.proofs.Common.{◌≡◌, ◌+◌, ◌==◌, drop}
use Rattle.std.specs.List.{position_or_len}
use Rattle.audit_records.proofs.address.before_zero.Given as goal

abbrev pub invariant-loop-at : goal.invariant-loop-at
invariant-loop-at l = l.at + position_or_len (λ byte. byte == 0) (drop l.at l.bytes) ≡ position_or_len (λ byte. byte == 0) l.bytes
