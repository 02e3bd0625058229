use Rattle.std.proofs.Common.{Option, [], ◌∷◌, ap, refl, subst, sym, ◌∙◌, unwrap_or}
use Rattle.std.proofs.lemmas.Option.{unwrap_or-slice_get}
use Rattle.osq_value.specs.declared.value.Value.{Value}
use Rattle.osq_value.specs.declared.value.Value.TheVariants.{Null}
use Rattle.sql_meaning.specs.Lent.{values_in}
use Rattle.sql_groups.specs.declared.items.GroupItem.{GroupItem}
use Rattle.sql_groups.specs.declared.so_far.SoFar.TheVariants as so_far
use Rattle.sql_groups.specs.Folding.{HasFolded, counted, first, lone}
use Rattle.sql_groups.proofs.so_far.SoFar.begun.Goals as goal

pub returns-in-Some : goal.returns-in-Some
returns-in-Some c =
    let value = ap (λ (o : Option Value). unwrap_or o Null) c.in-Some.ensures ∙ unwrap_or-slice_get (values_in c.args.row) c.in-First.place Null in
    subst (λ (item : GroupItem). HasFolded (values_in c.args.row ∷ []) item (so_far.First c.in-Some.value)) (sym c.in-First.is)
    (first (values_in c.args.row) [] c.in-First.place c.in-Some.value value)

pub returns-in-Alone : goal.returns-in-Alone
returns-in-Alone c =
    subst (λ (item : GroupItem). HasFolded (values_in c.args.row ∷ []) item (so_far.Alone c.args.row c.in-Alone.expr)) (sym c.in-Alone.is)
    (lone (values_in c.args.row) [] c.args.row c.in-Alone.expr refl)

pub returns-in-Rows : goal.returns-in-Rows
returns-in-Rows c =
    subst (λ (item : GroupItem). HasFolded (values_in c.args.row ∷ []) item (so_far.Rows 1)) (sym c.in-Rows.is) (counted (values_in c.args.row ∷ []) 1 refl)
