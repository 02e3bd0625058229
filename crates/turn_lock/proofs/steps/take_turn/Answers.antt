use Rattle.std.proofs.Common.{rules, ℕ, ap, List, Option, Some}
use Rattle.turn_lock.specs.declared.board.View.{View}
use Rattle.turn_lock.proofs.Lists.{carries}
use Rattle.turn_lock.proofs.steps.take_turn.Goals as goal

pub exchange-requires : goal.exchange-requires
exchange-requires g c =
    let W : Type 0 = View g.row.T-Start.Denot g.row.T-Entry.Denot in
    let served = c.wait.ensures.served in
    (search rules, (Some served.value, carries _ _ 0 (Some served.value) (ap (λ (m : W × List (ℕ × Option g.row.T.Denot)). m.1) served.seat)))
