use Rattle.std.proofs.Common.{List, set, sym, subst, ◌∙◌, ap}
use Rattle.osq_value.specs.declared.value.Value.{Value}
use Rattle.osq_value.specs.Catalogue.{width_of}
use Rattle.event_store.specs.Contents.{AreWide}
use Rattle.session_state.specs.Computed.{schedule_shown}
use Rattle.session_state.proofs.Counted.{time_wide, schedule_wide, events_wide}
use Rattle.session_state.proofs.Listing.{parts_whole}
use Rattle.session_state.proofs.state.State.view_with.Goals as goal

pub set_computed-requires-clause-wide : goal.set_computed-requires-clause-wide
set_computed-requires-clause-wide g c =
    subst (λ (rows : List (List Value)). AreWide (width_of 12) rows) (sym (c.in_ok-time.ensures ∙ c.in_ok-time_rows.ensures)) (time_wide c.args.moment)

pub set_parts-requires-clause-wide : goal.set_parts-requires-clause-wide
set_parts-requires-clause-wide g c =
    subst (λ (rows : List (List Value)). AreWide (width_of 13) rows) (sym (parts_whole (schedule_shown c.self.inside.cursors.runs c.as_slice-queries.result.now) c.in_ok-schedule.schedule c.in_ok-schedule.ensures)) (schedule_wide c.self.inside.cursors.runs c.as_slice-queries.result.now)

pub set_computed-requires-2-clause-wide : goal.set_computed-requires-2-clause-wide
set_computed-requires-2-clause-wide g c =
    subst (λ (rows : List (List Value)). AreWide (width_of 14) rows) (sym (c.in_ok-events.ensures ∙ c.in_ok-event_rows.ensures)) (events_wide c.self.inside.image)

pub returns-clause-view : goal.returns-clause-view
returns-clause-view g c =
    let time = c.in_ok-time.ensures ∙ c.in_ok-time_rows.ensures in
    let runs = c.self.inside.cursors.runs in
    let schedule = parts_whole (schedule_shown runs c.as_slice-queries.result.now) c.in_ok-schedule.schedule c.in_ok-schedule.ensures ∙ ap (schedule_shown runs) c.as_slice-queries.ensures in
    let events = c.in_ok-events.ensures ∙ c.in_ok-event_rows.ensures in
    let one = c.set_computed.ensures.set ∙ (λ i. set (c.in_ok-view.ensures.shown i) 12 (time i)) in
    let two = c.set_parts.ensures.set ∙ (λ i. set (one i) 13 (schedule i)) in
    rw (← c.self.view_is) (c.set_computed-2.ensures.set ∙ (λ i. set (two i) 14 (events i)))
