use Rattle.std.proofs.Common.{Option, ℕ, subst}
use Rattle.std.proofs.lemmas.Result.{IfOk-weaker}
use Rattle.sql_meaning.specs.Firsts.{same_values}
use Rattle.sql_meaning.specs.Lent.{values_in}
use Rattle.sql_groups.specs.Grouping.{Puts}
use Rattle.sql_groups.specs.Keys.{key_worths}
use Rattle.sql_groups.proofs.Stored.{inserted-shown, keys-are, place-shown, same_keys}
use Rattle.sql_groups.proofs.grouped.add_by.Goals as goal

pub returns : goal.returns
returns c =
    let old = c.args.found.now in
    let at = c.in_ok-at.ensures in
    let place = place-shown key_worths same_keys same_values keys-are old.keys.keys c.args.key c.in_ok-at.is_new c.in_ok-at.at at.added at.index in
    IfOk-weaker c.put.result _ _
    (λ told puts h. (
      inserted-shown key_worths same_keys same_values keys-are old.keys.keys c.insert_full.new.self.keys c.args.key at.keys,
      subst (λ (o : Option ℕ). Puts c.args.items.now old.groups.items o (values_in c.args.row) c.put.new.groups.items) place (puts h),
    ))
    c.put.ensures
