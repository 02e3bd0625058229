use Rattle.std.proofs.Common.{◌<◌, ◌∙◌, sym, length, get_or, arith}
use Rattle.audit_records.proofs.HexNumber.{room, small}
use Rattle.audit_records.proofs.socket.hex_number.Goals as goal

pub overflow_mul-number : goal.overflow_mul-number
overflow_mul-number c =
    let fits = room (length c.args.text.now) c.loop-byte.byte-index c.loop-byte.number c.loop-byte-test.true (omega arith) c.loop-byte.invariant.1 in
    omega arith

pub overflow_add-number : goal.overflow_add-number
overflow_add-number c =
    let fits = room (length c.args.text.now) c.loop-byte.byte-index c.loop-byte.number c.loop-byte-test.true (omega arith) c.loop-byte.invariant.1 in
    let few : c.in-Some.digit < 16 = small (get_or c.args.text.now c.loop-byte.byte-index 0) c.in-Some.digit (sym c.hex_digit.ensures ∙ c.in-Some.is) in
    omega (arith, few, c.from.ensures)
