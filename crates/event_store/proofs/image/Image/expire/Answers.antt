use Rattle.std.proofs.Common.{◌≤◌, sym, subst}
use Rattle.event_store.specs.Contents.{Contents}
use Rattle.event_store.proofs.Floors.{kept_expired}
use Rattle.event_store.proofs.image.Image.expire.Goals as goal

pub invariant_of-self : goal.invariant_of-self
invariant_of-self c =
    let i = c.self.inside in
    let image : Contents = record { last = i.events.last; floors = i.floors; live = i.events.live; tables = i.tables } in
    rw c.expire.ensures (kept_expired i.in_order i.latest c.args.table.0 c.args.floor image c.self.invariant c.requires.evented (subst (λ (x : Contents). c.args.floor ≤ x.last) (sym c.self.view_is) c.requires.known))
