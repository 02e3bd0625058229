-- The event of a group of audit lines.
use Rattle.std.specs.Prelude.{ℕ, ◌+◌, ◌*◌, ◌^◌, ◌==◌, ◌&&◌, nat_le, nat_lt, if◌then◌else◌, ℤ, pos, negsuc, Bool, true, false, List, [], ◌∷◌, codes, decimal, find, length, Option, Some, None, option_map, option_and_then}
use Rattle.std.specs.Option.{option_map_or}
use Rattle.hex.specs.Hex.{hex_digit_value}
use Rattle.osq_value.specs.declared.value.TheConstants.TableId.{PROCESS_EVENTS, SOCKET_EVENTS}
use Rattle.osq_value.specs.declared.value.Event.{Event}
use Rattle.osq_value.specs.declared.value.Value.{Value}
use Rattle.osq_value.specs.declared.value.Value.TheVariants.{Null, Int, Text}
use Rattle.audit_records.specs.declared.address.Address.{Address}
use Rattle.audit_records.specs.declared.line.AuditLine.{AuditLine}
use Rattle.audit_records.specs.declared.event.Call.{Call}
use Rattle.audit_records.specs.declared.event.Call.TheVariants.{Execution, Connect, Bind, Accept}
use Rattle.audit_records.specs.Addresses.{address_in}
use Rattle.audit_records.specs.Arguments.{command_line}
use Rattle.audit_records.specs.FieldValues.{has_kind, has_succeeded, has_text, number_value, spelled_number, text_of, text_or_null, time_of, value_text}

-- the first SYSCALL line of the x86-64 architecture
abbrev pub is_system_call : AuditLine → Bool
is_system_call line = has_kind (codes "SYSCALL") line && has_text (codes "arch") (codes "c000003e") line

-- the system calls of x86-64 that are told of: execve, execveat, connect, bind, accept, accept4
abbrev pub call_numbered : ℤ → Option Call
call_numbered (pos n) = if n == 59 then Some Execution
    else if n == 322 then Some Execution
    else if n == 42 then Some Connect
    else if n == 49 then Some Bind
    else if n == 43 then Some Accept
    else if n == 288 then Some Accept
    else None
call_numbered (negsuc n) = None

abbrev pub call_of : AuditLine → Option Call
call_of line = option_and_then call_numbered (spelled_number (codes "syscall") line)

-- a value of the first of these lines, else Null
abbrev pub first_value : (AuditLine → Bool) → (AuditLine → Value) → List AuditLine → Value
first_value test value lines = option_map_or value (find test lines) Null

abbrev pub is_first_path : AuditLine → Bool
is_first_path line = has_kind (codes "PATH") line && has_text (codes "item") (codes "0") line

abbrev pub mode_of : List AuditLine → Value
mode_of lines = first_value is_first_path (λ line. text_or_null (text_of (codes "mode") line)) lines

abbrev pub is_working_directory : AuditLine → Bool
is_working_directory line = has_kind (codes "CWD") line

abbrev pub cwd_of : List AuditLine → Value
cwd_of lines = first_value is_working_directory (value_text (codes "cwd")) lines

-- pid, path, mode, cmdline, cwd, auid, uid, euid, gid, egid, parent, time
abbrev pub process_row : AuditLine → List AuditLine → List Value
process_row line lines =
    number_value (codes "pid") line ∷ value_text (codes "exe") line ∷ mode_of lines ∷ Text (command_line lines) ∷ cwd_of lines
    ∷ number_value (codes "auid") line ∷ number_value (codes "uid") line ∷ number_value (codes "euid") line ∷ number_value (codes "gid") line
    ∷ number_value (codes "egid") line ∷ number_value (codes "ppid") line ∷ time_of line ∷ []

abbrev pub process_event : AuditLine → List AuditLine → Event
process_event line lines = record { table = PROCESS_EVENTS; row = process_row line lines }

abbrev pub execution_event : AuditLine → List AuditLine → Option Event
execution_event line lines = if has_succeeded line then Some (process_event line lines) else None

-- the number that hexadecimal digits spell behind those of another
abbrev pub hex_from : ℕ → List ℕ → Option ℕ
hex_from front [] = Some front
hex_from front (byte ∷ rest) = option_and_then (λ digit. hex_from (16 * front + digit) rest) (hex_digit_value byte)

-- 1 to 16 digits
abbrev pub hex_number : List ℕ → Option ℕ
hex_number text = if nat_le 1 (length text) && nat_le (length text) 16 then hex_from 0 text else None

abbrev pub descriptor_text : ℕ → Value
descriptor_text n = if nat_lt n (2 ^ 63) then Text (decimal n) else Null

-- the decimal text of the hexadecimal `a0` below 2^63, else Null
abbrev pub descriptor_of : AuditLine → Value
descriptor_of line = option_map_or descriptor_text (option_and_then hex_number (text_of (codes "a0") line)) Null

abbrev pub status_of : AuditLine → List ℕ
status_of line = if has_succeeded line then codes "succeeded" else codes "failed"

-- one end of a socket
pub record Side : Type 0 where
  pub address : List ℕ
  pub port : ℕ

abbrev pub side_of : Address → Side
side_of found = record { address = found.address; port = found.port }

abbrev pub unknown : Side
unknown = record { address = []; port = 0 }

-- action, pid, path, fd, auid, status, family, local_address, remote_address, local_port, remote_port, socket, time
abbrev pub socket_row : List ℕ → AuditLine → Address → Side → Side → List Value
socket_row action line found here there =
    Text action ∷ number_value (codes "pid") line ∷ value_text (codes "exe") line ∷ descriptor_of line ∷ number_value (codes "auid") line
    ∷ Text (status_of line) ∷ Int (pos found.family) ∷ Text here.address ∷ Text there.address ∷ Int (pos here.port) ∷ Int (pos there.port)
    ∷ Text found.socket ∷ time_of line ∷ []

abbrev pub socket_event : List ℕ → AuditLine → Address → Side → Side → Event
socket_event action line found here there = record { table = SOCKET_EVENTS; row = socket_row action line found here there }

-- the event of a call that tells of the local end, or of the remote one
abbrev pub located_event : List ℕ → Bool → AuditLine → Address → Event
located_event action is_local line found = if is_local then socket_event action line found (side_of found) unknown else socket_event action line found unknown (side_of found)

abbrev pub call_event : Call → AuditLine → List AuditLine → Option Event
call_event Execution line lines = execution_event line lines
call_event Connect line lines = option_map (located_event (codes "connect") false line) (address_in lines)
call_event Bind line lines = option_map (located_event (codes "bind") true line) (address_in lines)
call_event Accept line lines = option_map (located_event (codes "accept") false line) (address_in lines)

abbrev pub line_event : AuditLine → List AuditLine → Option Event
line_event line lines = option_and_then (λ call. call_event call line lines) (call_of line)

-- the event of the group's system call
unfoldable pub event_of : List AuditLine → Option Event
event_of lines = option_and_then (λ line. line_event line lines) (find is_system_call lines)
