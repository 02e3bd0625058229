-- An event's row has a value for each column of its table.
use Rattle.std.proofs.Common.{◌≡◌, ℕ, Bool, true, false, cond, List, length, refl, Option, Some, None}
use Rattle.std.specs.Prelude.{IfSome, codes, find, option_and_then, option_map}
use Rattle.osq_value.specs.declared.value.Event.{Event}
use Rattle.osq_value.specs.Catalogue.{columns_of, tables, width_of}
use Rattle.audit_records.specs.declared.address.Address.{Address}
use Rattle.audit_records.specs.declared.event.Call.{Call}
use Rattle.audit_records.specs.declared.event.Call.TheVariants.{Execution, Connect, Bind, Accept}
use Rattle.audit_records.specs.declared.line.AuditLine.{AuditLine}
use Rattle.audit_records.specs.Addresses.{address_in}
use Rattle.audit_records.specs.Events.{call_event, call_of, event_of, is_system_call, line_event, located_event, process_event}
use Rattle.audit_records.specs.FieldValues.{has_succeeded}

abbrev pub IsWhole : Event → Type 0
IsWhole event = length event.row ≡ width_of event.table.0

process-whole : (line : AuditLine) (lines : List AuditLine) → IsWhole (process_event line lines)
unfolding width_of columns_of tables
process-whole line lines = refl

located-whole : (action : List ℕ) (is_local : Bool) (line : AuditLine) (found : Address) → IsWhole (located_event action is_local line found)
unfolding width_of columns_of tables
located-whole action true line found = refl
located-whole action false line found = refl

socket-whole : (action : List ℕ) (is_local : Bool) (line : AuditLine) (found : Option Address) → IfSome (option_map (located_event action is_local line) found) IsWhole
socket-whole action is_local line None = tt
socket-whole action is_local line (Some found) = located-whole action is_local line found

call-whole : (call : Call) (line : AuditLine) (lines : List AuditLine) → IfSome (call_event call line lines) IsWhole
call-whole Execution line lines = by_success (has_succeeded line) where
  by_success : (t : Bool) → IfSome (cond t (Some (process_event line lines)) None) IsWhole
  by_success true = process-whole line lines
  by_success false = tt
call-whole Connect line lines = socket-whole (codes "connect") false line (address_in lines)
call-whole Bind line lines = socket-whole (codes "bind") true line (address_in lines)
call-whole Accept line lines = socket-whole (codes "accept") false line (address_in lines)

pub event-whole : (lines : List AuditLine) → IfSome (event_of lines) IsWhole
unfolding event_of
event-whole lines = by_line (find is_system_call lines) where
  by_call : (line : AuditLine) (call : Option Call) → IfSome (option_and_then (λ c. call_event c line lines) call) IsWhole
  by_call line None = tt
  by_call line (Some call) = call-whole call line lines

  by_line : (found : Option AuditLine) → IfSome (option_and_then (λ line. line_event line lines) found) IsWhole
  by_line None = tt
  by_line (Some line) = by_call line (call_of line)
