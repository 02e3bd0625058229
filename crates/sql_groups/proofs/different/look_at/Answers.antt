use Rattle.std.proofs.Common.{Option, ap, map, sym, ◌∙◌, unwrap_or}
use Rattle.std.proofs.lemmas.Option.{unwrap_or-slice_get}
use Rattle.osq_value.specs.declared.value.Value.{Value}
use Rattle.osq_value.specs.declared.value.Value.TheVariants.{Null}
use Rattle.sql_query.specs.View.{expr_of}
use Rattle.sql_meaning.specs.Lent.{values_in}
use Rattle.sql_groups.specs.Different.{equal, held, held_alone, values_of}
use Rattle.sql_groups.proofs.Adding.{alike, stands-more}
use Rattle.sql_groups.proofs.different.look_at.Goals as goal

pub returns-in_ok-add-in-Some : goal.returns-in_ok-add-in-Some
returns-in_ok-add-in-Some c = λ h rows was.
    let value = ap (λ (o : Option Value). unwrap_or o Null) c.in-Some.ensures ∙ unwrap_or-slice_get (values_in c.args.row) c.args.place Null in
    let place = c.args.place in
    let adds = c.in_ok-add-in-Some.ensures in
    stands-more equal (held_alone place) (held place) (alike place) (map expr_of c.args.condition.now.parts) rows c.args.row c.in-Some.value.now (values_of c.args.found.now) (values_of c.add.new.found)
    c.args.found.now.rows c.add.new.found.rows (sym c.in_ok-is_kept.ensures ∙ c.if-not-branch.false) value adds.0 adds.1 was
