use Rattle.std.proofs.Common.{List, subst, ap, ◌∙◌}
use Rattle.entry_model.specs.declared.restored.SetTable.{SetTable}
use Rattle.kept_tables.specs.declared.live.LivePart.{LivePart}
use Rattle.kept_tables.specs.Loads.{events_in, tables_in, IsByNumber}
use Rattle.kept_tables.proofs.Giving.{live_is}
use Rattle.kept_tables.proofs.Places.{all_held}
use Rattle.kept_tables.proofs.restoring.restored_of.Goals as goal

pub returns : goal.returns
returns c = λ values shows.
    let floors = c.args.found.now.counts.floors in
    let parts = c.in_ok-parts.ensures shows.live.parts shows.live.held shows.live.are in
    let by = subst (λ (ps : List LivePart). IsByNumber (events_in floors ps) c.in_ok-live.live) parts c.in_ok-live.ensures in
    let live = live_is (events_in floors shows.live.parts) values.live c.in_ok-live.live by shows.live.same shows.live.rising in
    let set = c.in_ok-set.ensures shows.tables.parts shows.tables.held shows.tables.are in
    let tables = c.in_ok-tables.ensures ∙ ap (λ (ps : List SetTable). tables_in ps) set ∙ shows.tables.same in
    let taken = c.in_ok-taken.ensures values.taken (all_held values.taken) shows.taken in
    let runs = c.in_ok-runs.ensures values.runs (all_held values.runs) shows.runs in
    let counts = shows.counts in
    λ i. record {
      position = counts.position i;
      sessions = counts.sessions i;
      moment = counts.moment i;
      last = counts.last i;
      floors = counts.floors i;
      live = live i;
      taken = taken i;
      tables = tables i;
      runs = runs i;
      batches = counts.batches i;
      acked = counts.acked i;
    }
