use Rattle.std.proofs.Common.{Option, ap, map, sym, ◌∙◌, unwrap_or}
use Rattle.std.proofs.lemmas.Option.{unwrap_or-slice_get}
use Rattle.std.proofs.lemmas.Result.{IfOk-weaker}
use Rattle.osq_value.specs.declared.value.Value.{Value}
use Rattle.osq_value.specs.declared.value.Value.TheVariants.{Null}
use Rattle.sql_query.specs.View.{expr_of}
use Rattle.sql_meaning.specs.Lent.{values_in}
use Rattle.sql_groups.specs.Different.{equal, held, held_alone}
use Rattle.sql_groups.specs.Grouping.{values_of}
use Rattle.sql_groups.proofs.Adding.{alike}
use Rattle.sql_groups.proofs.Gathered.{folds-more}
use Rattle.sql_groups.proofs.grouped.look_at.Goals as goal

pub returns-in-Some : goal.returns-in-Some
returns-in-Some c =
    let value = ap (λ (o : Option Value). unwrap_or o Null) c.in-Some.ensures ∙ unwrap_or-slice_get (values_in c.args.row) c.args.place Null in
    IfOk-weaker c.add.result _ _
    (λ told adds h rows was.
    folds-more equal (held_alone c.args.place) (held c.args.place) (alike c.args.place) (map expr_of c.args.condition.now.parts) c.args.items.now rows c.args.row c.in-Some.value.now
    (values_of c.args.found.now) (values_of c.add.new.found) c.args.found.now.groups.items c.add.new.found.groups.items
    (sym c.in_ok-is_kept.ensures ∙ c.if-not-branch.false) value (adds h).0 (adds h).1 was)
    c.add.ensures
