use Rattle.std.proofs.Common.{◌≡◌, ◌∙◌}
use Rattle.osq_value.specs.Catalogue.{table_name}
use Rattle.osq_value.specs.Described.{heading}
use Rattle.sql_names.proofs.Labels.{label, no_label}
use Rattle.sql_names.proofs.making.name_in_catalogue.Goals as goal

pub returns-in-Some : goal.returns-in-Some
returns-in-Some c =
    let e : c.in-Some.found.name.now ≡ table_name c.args.table.0 = label c.args.table.0 (heading c.in-Some.found) c.in-Some.ensures.heading in
    rw (← e) c.of.ensures

pub returns-in-None : goal.returns-in-None
returns-in-None c = c.empty.ensures ∙ no_label c.args.table.0 c.in-None.ensures.heading
