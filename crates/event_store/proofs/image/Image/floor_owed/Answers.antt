use Rattle.std.proofs.Common.{ℕ, ◌<◌, ◌≤◌, sym, subst, Option}
use Rattle.std.specs.Prelude.{IfSome}
use Rattle.event_store.specs.Contents.{Contents, floor_at}
use Rattle.event_store.proofs.Floors.{owed_moves}
use Rattle.event_store.proofs.image.Image.floor_owed.Goals as goal

pub floor_owed-requires-clause-order : goal.floor_owed-requires-clause-order
floor_owed-requires-clause-order c so = (c.self.inside.latest, c.self.invariant.order so c.args.table.0)

pub returns-clause-moves : goal.returns-clause-moves
returns-clause-moves c =
    let i = c.self.inside in
    let a = c.args in
    let image : Contents = record { last = i.events.last; floors = i.floors; live = i.events.live; tables = i.tables } in
    subst (λ (x : Contents). IfSome c.floor_owed.result (λ (floor : ℕ). (floor_at x a.table.0 < floor) × (floor ≤ x.last))) c.self.view_is
    (subst (λ (found : Option ℕ). IfSome found (λ (floor : ℕ). (floor_at image a.table.0 < floor) × (floor ≤ image.last))) (sym c.floor_owed.ensures) (owed_moves i.in_order i.latest a.expiry a.max a.moment a.reached a.table.0 image c.self.invariant c.requires))
