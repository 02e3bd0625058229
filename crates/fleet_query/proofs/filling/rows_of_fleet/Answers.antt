use Rattle.std.proofs.Common.{◌∙◌}
use Rattle.std.proofs.lemmas.Result.{IfOk-weaker}
use Rattle.sql_query.specs.Resolved.{query_of}
use Rattle.sql_texts.proofs.Named.{depend_on_sources}
use Rattle.fleet_query.specs.Filled.{rows_in}
use Rattle.fleet_query.specs.Tables.{fleet_view}
use Rattle.fleet_query.proofs.filling.rows_of_fleet.Goals as goal

pub returns : goal.returns
returns c =
    IfOk-weaker c.rows_over.result _ _
    (λ rows is. is ∙ depend_on_sources (query_of c.args.query.now) (rows_in c.in_ok-tables.tables) (fleet_view c.args.frames.now) c.in_ok-tables.ensures.rows)
    c.rows_over.ensures
