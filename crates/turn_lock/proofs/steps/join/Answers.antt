use Rattle.std.proofs.Common.{rules, ℕ, inr, ap, List, Option}
use Rattle.turn_lock.specs.declared.board.View.{View}
use Rattle.turn_lock.proofs.Keeps.{joins, learns}
use Rattle.turn_lock.proofs.steps.join.Goals as goal

pub join_seat-requires : goal.join_seat-requires
join_seat-requires g c = (search rules, search rules, search rules, search rules, joins _ _ _ _ _ _ c.requires.rest.0.0 c.requires.first.0 c.requires.rest.1.0 c.requires.first.1)

pub load-requires : goal.load-requires
load-requires g c =
    let W : Type 0 = View g.row.T-Start.Denot g.row.T-Entry.Denot in
    (search rules, search rules, learns _ _ _ _ _ (inr (ap (λ (m : W × List (ℕ × Option g.row.T.Denot)). m.0.phase) c.join_seat.ensures.2)))
