use Rattle.std.proofs.Common.{◌-◌, ◌∙◌, List, [], None, ap, get_or, refl}
use Rattle.std.specs.Prelude.{if◌then◌else◌, nat_le}
use Rattle.std.proofs.lemmas.Result.{IfOk-weaker}
use Rattle.osq_value.specs.declared.value.Value.{Value}
use Rattle.fleet_query.proofs.WantedRows.{filled_rows}
use Rattle.fleet_query.proofs.filling.all_filled.Goals as goal

pub returns-clause-rows : goal.returns-clause-rows
returns-clause-rows c =
    IfOk-weaker c.filled_for.result _ _
    (λ tables is table. ap (λ (rows : List (List (List Value))). if nat_le 100 table then get_or rows (table - 100) [] else []) is
    ∙ filled_rows None c.args.frames.now table refl)
    c.filled_for.ensures.rows
