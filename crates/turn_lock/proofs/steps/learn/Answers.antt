use Rattle.std.proofs.Common.{rules, ap, ◌∙◌, inl}
use Rattle.turn_lock.specs.declared.board.View.{View}
use Rattle.turn_lock.proofs.Keeps.{learns, calm}
use Rattle.turn_lock.proofs.steps.learn.Goals as goal

pub load-requires : goal.load-requires
load-requires g c = (search rules, search rules, learns _ _ _ _ _ (inl c.requires.rest.0))

pub returns : goal.returns
returns g c =
    let e = c.load.ensures in (
      e.0,
      e.1,
      e.2.0 ∙ ap (λ (v : View g.row.T-Start.Denot g.row.T-Entry.Denot). (v, c.args.place.now.me.1)) (calm c.args.place.now.me.0 c.requires.rest.0),
      e.2.1,
    )
