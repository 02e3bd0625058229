use Rattle.std.proofs.Common.{◌≡◌, drop}
use Rattle.audit_records.specs.Arguments.{field_in}
use Rattle.audit_records.specs.FieldValues.{first_some}
use Rattle.audit_records.proofs.execve.execve_field.Given as goal

abbrev pub invariant-loop-line : goal.invariant-loop-line
invariant-loop-line l = first_some (field_in l.key) (drop l.line-index l.lines) ≡ first_some (field_in l.key) l.lines
