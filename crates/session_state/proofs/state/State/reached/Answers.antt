use Rattle.std.proofs.Common.{◌∙◌, ap, map}
use Rattle.std.specs.Prelude.{unwrap_or}
use Rattle.entry_model.specs.Views.{least_of}
use Rattle.query_cursors.specs.Places.{cursor_at}
use Rattle.session_state.specs.Kept.{Kept}
use Rattle.session_state.specs.Ticks.{reached_at}
use Rattle.session_state.proofs.Reading.{reached_is}
use Rattle.session_state.proofs.state.State.reached.Goals as goal

pub returns : goal.returns
returns c =
    let i = c.self.inside in
    let readers = c.at.ensures in
    let last = c.last.ensures in
    c.reached.ensures
    ∙ (λ j. unwrap_or (least_of (map (cursor_at i.cursors) (readers j))) (last j))
    ∙ reached_is i.cursors i.schedule.queries i.readers i.image.last c.args.table.0 c.requires c.self.invariant.state.places c.self.invariant.readers
    ∙ ap (λ (s : Kept). reached_at s c.args.table.0) c.self.view_is
