use Rattle.std.proofs.Common.{Option, None, ap, ◌∙◌, unwrap_or}
use Rattle.std.proofs.lemmas.Option.{unwrap_or-slice_get}
use Rattle.osq_value.specs.declared.value.Value.{Value}
use Rattle.osq_value.specs.declared.value.Value.TheVariants.{Null}
use Rattle.sql_meaning.specs.Lent.{values_in}
use Rattle.std.proofs.lemmas.Option.{IfSome_then}
use Rattle.sql_scalar.specs.Operators.{apply_of}
use Rattle.sql_groups.proofs.worth_in.number_by.Goals as goal

pub returns-in-Some : goal.returns-in-Some
returns-in-Some c =
    let applied = c.args.applied in
    let value = ap (λ (o : Option Value). unwrap_or o Null) c.in-Some.ensures ∙ unwrap_or-slice_get (values_in c.args.row) applied.place Null in
    IfSome_then c.number_of.result c.number_of.ensures (λ number is. is ∙ ap (λ (left : Value). apply_of applied.op applied.affinity None left applied.right.now) value)
