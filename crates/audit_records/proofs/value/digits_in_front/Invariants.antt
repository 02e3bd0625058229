use Rattle.std.proofs.Common.{◌≡◌, ◌+◌, drop}
use Rattle.std.specs.List.{prefix_len}
use Rattle.osq_value.specs.Spelling.{is_digit}
use Rattle.audit_records.proofs.value.digits_in_front.Given as goal

abbrev pub invariant-loop-at : goal.invariant-loop-at
invariant-loop-at l = l.at + prefix_len is_digit (drop l.at l.text) ≡ prefix_len is_digit l.text
