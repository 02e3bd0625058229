use Rattle.std.proofs.Common.{◌≡◌, length, Some, sym, ◌∙◌, subst, arith}
use mathlib.Core.Option.{some-injective}
use Rattle.turn_lock.specs.Turns.{entries}
use Rattle.turn_lock.specs.Seats.{seen, joined, given}
use Rattle.turn_lock.proofs.Keeps.{closes}
use Rattle.turn_lock.proofs.lock.TurnLock.close.Goals as goal

pub unreachable-requires : goal.unreachable-requires
unreachable-requires g c =
    let all : length (joined c.args.seat.seat) ≡ given c.args.seat.seat = omega (arith, c.requires.alone) in
    let end = closes g.T.Stands.stands c.args.self.table.shared.key _ _ _ _ c.requires.rest.0 c.requires.first all c.close_with-closed.ensures.values.2 in
    c.in_default.not-Some end.0 (some-injective _ _ (sym c.take-last.ensures.value ∙ end.1))

pub returns : goal.returns
returns g c =
    let all : length (joined c.args.seat.seat) ≡ given c.args.seat.seat = omega (arith, c.requires.alone) in
    let end = closes g.T.Stands.stands c.args.self.table.shared.key _ _ _ _ c.requires.rest.0 c.requires.first all c.close_with-closed.ensures.values.2 in
    let some_value : Some end.0 ≡ Some c.in-Some.value = sym (some-injective _ _ (sym c.take-last.ensures.value ∙ end.1)) ∙ c.in-Some.is in
    let same : end.0 ≡ c.in-Some.value = cc (some_value) in
    subst (λ (x : g.row.T.Denot). g.T.Stands.stands x c.args.self.table.shared.key.start.value (entries (seen c.args.seat.seat))) same end.2
