use Rattle.std.proofs.Common.{rules, ◌≡◌, ℕ, ap, sym, subst, List, Option}
use Rattle.atomic_table.specs.Table.{Splits}
use Rattle.turn_lock.specs.declared.board.View.{View}
use Rattle.turn_lock.specs.Turns.{left_of, right_of, Kept}
use Rattle.turn_lock.proofs.Keeps.{splits}
use Rattle.turn_lock.proofs.steps.split.Goals as goal

pub split_seat-requires : goal.split_seat-requires
split_seat-requires g c =
    let W : Type 0 = View g.row.T-Start.Denot g.row.T-Entry.Denot in
    let same : c.learn.new.place.me.0 ≡ c.args.place.now.me.0 = ap (λ (m : W × List (ℕ × Option g.row.T.Denot)). m.0) c.learn.ensures.2 in (
      search rules,
      search rules,
      subst (λ (v : W). Splits (Kept g.T.Stands.stands c.args.board.now.key) c.learn.new.place.id v (left_of v) (right_of v)) (sym same) (splits _ _ _ _ c.requires.rest.0 c.requires.first c.requires.room),
    )
