use Rattle.std.proofs.Common.{◌≡◌, Option, get_or, ap, ◌∙◌}
use Rattle.std.specs.Option.{option_map_or}
use Rattle.std.proofs.lemmas.Option.{slice_get-get_or}
use Rattle.entry_model.specs.declared.restored.Run.{Run}
use Rattle.session_state.specs.Inside.{kept}
use Rattle.session_state.specs.Cutting.{lower_from}
use Rattle.session_state.proofs.Placed.{run_is, bound_is}
use Rattle.session_state.proofs.state.State.lower_bound.Goals as goal

pub returns : goal.returns
returns c =
    let s = kept c.self.inside in
    let place = c.args.place in
    let d = c.index-as_slice-place.result in
    let queries = s.schedule.queries in
    let within = rw (← c.self.view_is) at c.requires in
    let slice : c.as_slice.result.now ≡ queries = c.as_slice.ensures in
    let run = c.placed_run.ensures ∙ run_is c.self.inside.cursors queries place d c.self.invariant.state.places within in
    let end = c.end_in-end.ensures ∙ ap (λ (o : Option Run). option_map_or (λ (run : Run). run.hi) o 0) run in
    rw (← c.self.view_is) (bound_is s place (get_or queries place d) c.lower_from.result (slice_get-get_or queries place d within) (c.lower_from.ensures ∙ (λ i. lower_from (get_or (slice i) place d).key.mode (end i))))
