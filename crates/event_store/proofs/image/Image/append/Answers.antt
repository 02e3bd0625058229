use Rattle.std.proofs.Common.{◌≡◌, ◌+◌, ◌^◌, ◌≤◌, length, arith}
use Rattle.event_store.specs.Contents.{Contents}
use Rattle.event_store.proofs.Kept.{appends}
use Rattle.event_store.proofs.Floors.{kept_appended}
use Rattle.event_store.proofs.image.Image.append.Goals as goal

pub invariant_of-self-2 : goal.invariant_of-self-2
invariant_of-self-2 g c =
    let i = c.self.inside in
    let image : Contents = record { last = i.events.last; floors = i.floors; live = i.events.live; tables = i.tables } in
    let count : c.len-count.result ≡ length c.args.events = c.len-count.ensures in
    let known = c.self.invariant.image.last in
    let within : i.events.last + length c.args.events ≤ 2 ^ 62 = omega (arith, count, known) in
    rw (c.in-Ok.ensures.ok) (kept_appended i.in_order i.latest c.args.moment image c.args.events c.self.invariant c.requires within)

pub returns-clause-ok : goal.returns-clause-ok
returns-clause-ok g c =
    let i = c.self.inside in
    let image : Contents = record { last = i.events.last; floors = i.floors; live = i.events.live; tables = i.tables } in
    rw (c.in-Ok.ensures.ok, ← c.self.view_is) (appends image c.args.events c.args.moment c.self.invariant.image)
