use Rattle.std.proofs.Common.{◌≡◌, ℕ, List, Option, Some, get_or, sym, ap, ◌∙◌}
use Rattle.std.specs.Option.{option_map_or}
use Rattle.std.proofs.lemmas.Option.{slice_get-get_or}
use Rattle.pack_rules.specs.declared.schedule.Scheduled.{Scheduled}
use Rattle.entry_model.specs.declared.restored.Run.{Run}
use Rattle.session_state.specs.Inside.{kept}
use Rattle.session_state.specs.Computed.{shown_by}
use Rattle.session_state.proofs.Placed.{run_is, cut_is}
use Rattle.session_state.proofs.state.State.cut_of.Goals as goal

pub returns-clause-cut : goal.returns-clause-cut
returns-clause-cut g c =
    let s = kept c.self.inside in
    let place = c.args.place in
    let d = c.index-as_slice-place.result in
    let queries = s.schedule.queries in
    let within = rw (← c.self.view_is) at c.requires.place in
    let slice : c.as_slice.result.now ≡ queries = c.as_slice.ensures in
    let run = c.placed_run.ensures ∙ run_is c.self.inside.cursors queries place d c.self.invariant.state.places within in
    rw (← c.self.view_is) (cut_is s place (get_or queries place d) c.in_ok-copy.field-0 c.above-lo.result c.last.result c.number_in-last.result c.in_ok-view_with.field-0 (record {
      stands = slice_get-get_or queries place d within;
      key_is = c.in_ok-copy.ensures ∙ ap (λ (qs : List Scheduled). (get_or qs place d).key) slice;
      bound = (rw (← c.self.view_is) at c.requires.lower) ∙ ap (λ (lo : ℕ). Some lo) (sym c.above-lo.ensures);
      hi_is = c.last.ensures;
      last_is = c.number_in-last.ensures ∙ ap (λ (o : Option Run). option_map_or (λ (run : Run). run.number) o 0) run;
      view_is = c.in_ok-view_with.ensures.view ∙ (λ i. shown_by (sym c.self.view_is i) (sym c.above-lo.ensures i) c.self.inside.moment);
    }))
