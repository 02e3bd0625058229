-- Which batch's frame is sent next, and how the acknowledged mark moves.
use Rattle.std.specs.Prelude.{ℕ, ◌+◌, ◌&&◌, nat_le, nat_lt, Bool, if◌then◌else◌, Option, Some, None, unwrap_or}
use Rattle.batch_forwarder.specs.declared.forwarder.Forwarder.{Forwarder}

-- the most batches that are sent and not acknowledged
abbrev pub IN_FLIGHT : ℕ
IN_FLIGHT = 64

-- the batches up to this number are acknowledged
abbrev pub acked_of : Forwarder → ℕ
acked_of forwarder = forwarder.acked

-- so many batches are sealed
abbrev pub sealed_of : Forwarder → ℕ
sealed_of forwarder = forwarder.sealed

-- nothing was given yet
abbrev pub fresh : ℕ → ℕ → Forwarder
fresh acked sealed = record { acked = acked; sealed = sealed; last = acked }

-- the batch of this number may be sent: it is sealed, and not too far from what is acknowledged
abbrev pub may_send : Forwarder → ℕ → Bool
may_send forwarder number = nat_le number forwarder.sealed && nat_le number (forwarder.acked + IN_FLIGHT)

-- the number after the last one given
abbrev pub next_of : Forwarder → Option ℕ
next_of forwarder = if may_send forwarder (forwarder.last + 1) then Some (forwarder.last + 1) else None

abbrev pub after_next : Forwarder → Forwarder
after_next forwarder = record forwarder { last = unwrap_or (next_of forwarder) forwarder.last }

abbrev pub restarted : Forwarder → Forwarder
restarted forwarder = record forwarder { last = forwarder.acked }

-- an answer with so many recorded moves the mark
abbrev pub moves : Forwarder → ℕ → Bool
moves forwarder recorded = nat_lt forwarder.acked recorded && nat_le recorded forwarder.sealed

abbrev pub mark_by : Forwarder → ℕ → Option ℕ
mark_by forwarder recorded = if moves forwarder recorded then Some recorded else None

abbrev pub after_answer : Forwarder → ℕ → Forwarder
after_answer forwarder recorded = record forwarder { acked = unwrap_or (mark_by forwarder recorded) forwarder.acked }
