use Rattle.std.proofs.Common.{◌∙◌, ◌<◌, ◌≤◌, arith, set, sym, subst}
use Rattle.std.proofs.lemmas.Bool.Decides.{nat_tests}
use Rattle.osq_value.specs.Catalogue.{width_of}
use Rattle.event_store.specs.Contents.{AreWide}
use Rattle.event_store.proofs.Views.{set_shown, shown_set}
use Rattle.event_store.proofs.view.CutView.set_parts.Goals as goal

pub invariant_of-self : goal.invariant_of-self
invariant_of-self c =
    let v = c.self.inside in
    let computed = c.requires.computed in
    let past : 3 ≤ c.args.table.0 = grind (arith, nat_tests, computed) in
    let within : c.args.table.0 < 15 = grind (arith, nat_tests, computed) in
    shown_set v.events.live v.tables.items c.args.table.0 c.parted.result past within c.self.invariant (subst (AreWide (width_of c.args.table.0)) (sym c.parted.ensures) c.requires.wide)

pub returns : goal.returns
returns c =
    let v = c.self.inside in
    let computed = c.requires.computed in
    let past : 3 ≤ c.args.table.0 = grind (arith, nat_tests, computed) in
    record { set = set_shown v.events.live v.tables.items c.args.table.0 c.parted.result c.self.invariant.three past ∙ (λ i. set (c.self.view_is i) c.args.table.0 (c.parted.ensures i)) }
