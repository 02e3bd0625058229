use Rattle.std.proofs.Common.{List, [], ◌∷◌, ◌++◌, ◌∙◌, ap}
use Rattle.osq_value.specs.declared.value.Value.{Value}
use Rattle.event_store.specs.Segments.{Numbered}
use Rattle.event_store.specs.Contents.{Contents, cut_above}
use Rattle.event_store.specs.Slices.{IsSliceOf}
use Rattle.event_store.proofs.Views.{AreCut, made_shown, made_are_shown}
use Rattle.event_store.proofs.image.Image.view.Goals as goal

pub of-requires : goal.of-requires
of-requires g c =
    let i = c.self.inside in
    let slice = c.args.slice in
    let image : Contents = record { last = i.events.last; floors = i.floors; live = i.events.live; tables = i.tables } in
    let is : IsSliceOf image slice = rw (← c.self.view_is) at c.requires in
    let are : AreCut image slice.above slice.events.live c.add_computed.new.all.items = record {
      events = ap (λ (e : Numbered). e.live) is;
      rows = c.in_ok-add_computed.ensures ∙ ap (λ (all : List (List (List Value))). all ++ [] ∷ [] ∷ [] ∷ []) (c.in_ok-share_tables.ensures.ok ∙ ap (λ (all : List (List (List Value))). all ++ i.tables) c.in_ok-tables.ensures.items);
    } in
    made_are_shown image slice.above slice.events.live c.add_computed.new.all.items are c.self.invariant.image

pub returns-clause-shown : goal.returns-clause-shown
returns-clause-shown g c =
    let i = c.self.inside in
    let slice = c.args.slice in
    let image : Contents = record { last = i.events.last; floors = i.floors; live = i.events.live; tables = i.tables } in
    let is : IsSliceOf image slice = rw (← c.self.view_is) at c.requires in
    let are : AreCut image slice.above slice.events.live c.add_computed.new.all.items = record {
      events = ap (λ (e : Numbered). e.live) is;
      rows = c.in_ok-add_computed.ensures ∙ ap (λ (all : List (List (List Value))). all ++ [] ∷ [] ∷ [] ∷ []) (c.in_ok-share_tables.ensures.ok ∙ ap (λ (all : List (List (List Value))). all ++ i.tables) c.in_ok-tables.ensures.items);
    } in
    c.of.ensures ∙ made_shown image slice.above slice.events.live c.add_computed.new.all.items are ∙ ap (cut_above slice.above) c.self.view_is
