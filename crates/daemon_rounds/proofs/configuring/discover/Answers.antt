use Rattle.std.proofs.Common.{◌≡◌, map, subst}
use Rattle.std.specs.Prelude.{IfOk}
use Rattle.event_store.specs.Contents.{Shown, rows_in}
use Rattle.query_answers.specs.Discovery.{is_found}
use Rattle.daemon_rounds.proofs.configuring.discover.Goals as goal

pub returns : goal.returns
returns c =
    subst (λ (view : Shown). IfOk c.found_packs.result (λ found. found.items ≡ map (is_found (rows_in view)) c.args.config.now.packs)) c.in_ok-view.ensures c.found_packs.ensures
