use Rattle.std.proofs.Common.{◌≡◌, ◌++◌}
use Rattle.std.specs.String.{string_bytes}
use Rattle.audit_records.specs.Arguments.{command_line}
use Rattle.audit_records.proofs.CommandLine.{joined_from, left}
use Rattle.audit_records.proofs.arguments.short_command.Given as goal

abbrev pub invariant-loop-place : goal.invariant-loop-place
invariant-loop-place l = string_bytes l.text ++ joined_from l.place (left l.lines l.place) ≡ command_line l.lines
