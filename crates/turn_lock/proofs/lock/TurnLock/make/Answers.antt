use Rattle.std.proofs.Common.{◌∷◌, ◌++◌, [], List, Option, Some, sym, ap, ◌∙◌, subst}
use Rattle.atomic_table.specs.Table.{opening}
use Rattle.turn_lock.specs.declared.board.Terms.{Terms}
use Rattle.turn_lock.specs.Turns.{Kept, first_view}
use Rattle.turn_lock.proofs.Keeps.{opens}
use Rattle.turn_lock.proofs.lock.TurnLock.make.Goals as goal

pub new-requires : goal.new-requires
new-requires g c =
    let S : Type 0 = Option g.row.T.Denot in
    let terms : Terms g.row.T-Start.Denot = record { start = c.args.start; seats = c.args.seats } in
    let items = c.in-Ok.ensures.items ∙ ap (λ (xs : List S). xs ++ Some c.args.value ∷ []) c.new-slots.ensures.items in
    subst (λ (xs : List S). Kept g.T.Stands.stands terms (opening (0 ∷ 0 ∷ []) xs (first_view c.args.start.value))) (sym items)
    (opens g.T.Stands.stands terms c.args.value c.requires.seats c.ranges.seats.fits c.requires.stands)
