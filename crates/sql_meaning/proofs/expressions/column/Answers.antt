use Rattle.std.proofs.Common.{Option, ap, map, sym, ◌∙◌, unwrap_or}
use Rattle.std.proofs.lemmas.Option.{unwrap_or-slice_get}
use Rattle.osq_value.specs.declared.value.Value.{Value}
use Rattle.osq_value.specs.declared.value.Value.TheVariants.{Null}
use Rattle.sql_meaning.specs.declared.expressions.Over.{Over}
use Rattle.sql_meaning.specs.Expressions.{value_at}
use Rattle.sql_meaning.specs.Lent.{values_in}
use Rattle.sql_meaning.specs.Over.{environment_of}
use Rattle.sql_meaning.specs.Steps.{first_row}
use Rattle.sql_meaning.proofs.expressions.column.Goals as goal

pub returns-in-Lent : goal.returns-in-Lent
returns-in-Lent c =
    c.held-in-Lent.ensures ∙ ap (λ (found : Option Value). unwrap_or found Null) c.value_in.ensures ∙ unwrap_or-slice_get (values_in c.in-Lent.row) c.args.place Null
    ∙ ap (λ (over : Over). value_at (environment_of over).row c.args.place) (sym c.in-Lent.is)

pub returns-in-Group : goal.returns-in-Group
returns-in-Group c =
    c.held-in-Group.ensures ∙ ap (λ (found : Option Value). unwrap_or found Null) c.value_in_first.ensures ∙ unwrap_or-slice_get (first_row (map values_in c.in-Group.rows.now)) c.args.place Null
    ∙ ap (λ (over : Over). value_at (environment_of over).row c.args.place) (sym c.in-Group.is)
