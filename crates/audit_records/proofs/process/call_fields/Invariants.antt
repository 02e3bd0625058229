use Rattle.std.proofs.Common.{◌≡◌, drop}
use Rattle.audit_records.specs.CallFields.{each_or, first_fields, found_of}
use Rattle.audit_records.proofs.CallFields.{firsts}
use Rattle.audit_records.proofs.process.call_fields.Given as goal

abbrev pub invariant-loop-field : goal.invariant-loop-field
invariant-loop-field l = each_or (found_of l.found) (firsts (drop l.field-index l.line.fields)) ≡ first_fields l.line
