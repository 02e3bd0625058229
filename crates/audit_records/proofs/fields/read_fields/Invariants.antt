use Rattle.std.proofs.Common.{◌≡◌, ◌++◌, length, option_map}
use Rattle.std.specs.Str.{IsUtf8}
use Rattle.audit_records.specs.Lines.{fields_of}
use Rattle.audit_records.proofs.fields.read_fields.Given as goal

abbrev pub invariant-loop-first : goal.invariant-loop-first
invariant-loop-first l = record {
  read : option_map (λ more. l.fields ++ more) (fields_of l.rest) ≡ fields_of l.text;
  utf8 : IsUtf8 l.rest;
}

abbrev pub decreases-loop-first : goal.decreases-loop-first
decreases-loop-first l = length l.rest
