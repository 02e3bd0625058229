use Rattle.std.proofs.Common.{◌≡◌, ℕ, List, find, bytes_eq, drop}
use Rattle.std.specs.Option.{option_or}
use Rattle.audit_records.specs.declared.line.Field.{Field}
use Rattle.audit_records.specs.FieldValues.{field_of}
use Rattle.audit_records.specs.Indexes.{indexed}
use Rattle.audit_records.proofs.execve.add_fields.Given as goal

abbrev pub invariant-loop-field : goal.invariant-loop-field
invariant-loop-field l = (key : List ℕ) → option_or (indexed l.index key) (find (λ (field : Field). bytes_eq field.key key) (drop l.field-index l.line.fields)) ≡ option_or (indexed l.fn.index key) (field_of key l.line)
