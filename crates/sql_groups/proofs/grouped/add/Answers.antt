use Rattle.std.proofs.Common.{Option, ℕ, subst}
use Rattle.std.proofs.lemmas.Result.{IfOk-weaker}
use Rattle.sql_meaning.specs.Lent.{values_in}
use Rattle.sql_groups.specs.Different.{equal}
use Rattle.sql_groups.specs.Grouping.{Puts}
use Rattle.sql_groups.proofs.Stored.{inserted-shown, place-shown, places-are, same_places, value_in_place}
use Rattle.sql_groups.proofs.grouped.add.Goals as goal

pub returns : goal.returns
returns c =
    let old = c.args.found.now in
    let at = c.in_ok-at.ensures in
    let place = place-shown value_in_place same_places equal places-are old.values.keys c.args.value c.in_ok-at.is_new c.in_ok-at.at at.added at.index in
    IfOk-weaker c.put.result _ _
    (λ told puts h. (
      inserted-shown value_in_place same_places equal places-are old.values.keys c.insert_full.new.self.keys c.args.value at.keys,
      subst (λ (o : Option ℕ). Puts c.args.items.now old.groups.items o (values_in c.args.row) c.put.new.groups.items) place (puts h),
    ))
    c.put.ensures
