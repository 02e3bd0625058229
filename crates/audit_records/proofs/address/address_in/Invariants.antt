use Rattle.std.proofs.Common.{◌≡◌, drop}
use Rattle.audit_records.specs.FieldValues.{first_some}
use Rattle.audit_records.specs.Addresses.{line_address}
use Rattle.audit_records.proofs.address.address_in.Given as goal

abbrev pub invariant-loop-line : goal.invariant-loop-line
invariant-loop-line l = first_some line_address (drop l.line-index l.lines) ≡ first_some line_address l.lines
