use Rattle.std.proofs.Common.{◌≡◌, take}
use Rattle.std.specs.Prelude.{true}
use Rattle.std.specs.List.{list_all}
use Rattle.query_answers.specs.Discovery.{gives_rows}
use Rattle.query_answers.proofs.discovery.all_give_rows.Given as goal

abbrev pub invariant-loop-text : goal.invariant-loop-text
invariant-loop-text g l = list_all (gives_rows (g.V.Tables.rows_of l.view)) (take l.text-index l.texts) ≡ true
