use Rattle.std.proofs.Common.{◌/◌, ◌%◌, List, [], get_or, sym, ap, ◌∙◌, arith}
use Rattle.std.specs.Prelude.{slice_get}
use Rattle.std.specs.Arc.{arc_value}
use Rattle.std.proofs.lemmas.List.{get_or_default}
use Rattle.osq_value.specs.declared.value.Value.{Value}
use Rattle.event_store.specs.Parts.{Parted}
use Rattle.event_store.proofs.Parting.{none_past, part_there, got}
use Rattle.event_store.proofs.parted.PartedRows.get.Goals as goal

pub returns-then-at-self : goal.returns-then-at-self
returns-then-at-self c =
    rw (← c.self.view_is) (sym (none_past (record { parts = (arc_value c.self.inside.parts).items; count = c.self.inside.count }) c.args.at (omega (arith, c.if-at-self.true))))

pub returns : goal.returns
returns c =
    let at = c.args.at in
    let rows : Parted = record { parts = (arc_value c.self.inside.parts).items; count = c.self.inside.count } in
    let within = c.if-at-self.false in
    let part = c.index.ensures ∙ (λ i. get_or (c.deref.ensures i).items (at / 64) c.index.result.now) ∙ get_or_default rows.parts (at / 64) c.index.result.now [] (part_there rows at c.self.invariant within) in
    rw (← c.self.view_is) (c.get.ensures ∙ ap (λ (rows : List (List Value)). slice_get rows (at % 64)) part ∙ got rows at c.self.invariant within)
