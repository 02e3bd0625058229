use Rattle.std.proofs.Common.{◌≡◌, ◌^◌, ◌<◌, drop}
use Rattle.audit_records.specs.Events.{hex_from}
use Rattle.audit_records.proofs.socket.hex_number.Given as goal

abbrev pub invariant-loop-byte : goal.invariant-loop-byte
invariant-loop-byte l = (hex_from l.number (drop l.byte-index l.text) ≡ hex_from 0 l.text) × (l.number < 16 ^ l.byte-index)
