use Rattle.std.proofs.Common.{◌≡◌, ℕ, List, drop}
use Rattle.std.specs.Option.{option_or}
use Rattle.audit_records.specs.Arguments.{execve_field, field_in}
use Rattle.audit_records.specs.FieldValues.{first_some}
use Rattle.audit_records.specs.Indexes.{indexed}
use Rattle.audit_records.proofs.execve.first_fields.Given as goal

abbrev pub invariant-loop-line : goal.invariant-loop-line
invariant-loop-line l = (key : List ℕ) → option_or (indexed l.index key) (first_some (field_in key) (drop l.line-index l.lines)) ≡ execve_field key l.lines
