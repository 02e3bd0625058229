use Rattle.std.proofs.Common.{◌∙◌, sym, ap, Bool, ◌++◌, ◌∷◌, [], true, false}
use Rattle.std.specs.Prelude.{if◌then◌else◌}
use Rattle.sql_meaning.specs.Firsts.{same_values}
use Rattle.sql_groups.specs.Keys.{key_worths}
use Rattle.sql_groups.proofs.Stored.{fresh-shown, inserted-shown, keys-are, same_keys}
use Rattle.sql_groups.proofs.different.add_key.Goals as goal

pub returns-in_ok-push : goal.returns-in_ok-push
returns-in_ok-push c =
    let old = c.args.found.now in
    let fresh = fresh-shown key_worths same_keys same_values keys-are old.keys.keys c.args.key c.in_ok-insert.field-0 true c.in_ok-insert.ensures.added c.if-branch.true in (
      inserted-shown key_worths same_keys same_values keys-are old.keys.keys c.insert.new.self.keys c.args.key c.in_ok-insert.ensures.keys,
      c.in_ok-push.ensures.ok ∙ sym (ap (λ (b : Bool). if b then old.rows else old.rows ++ c.args.row ∷ []) fresh),
    )

pub returns-else-branch : goal.returns-else-branch
returns-else-branch c =
    let old = c.args.found.now in
    let fresh = fresh-shown key_worths same_keys same_values keys-are old.keys.keys c.args.key c.in_ok-insert.field-0 false c.in_ok-insert.ensures.added c.if-branch.false in (
      inserted-shown key_worths same_keys same_values keys-are old.keys.keys c.insert.new.self.keys c.args.key c.in_ok-insert.ensures.keys,
      sym (ap (λ (b : Bool). if b then old.rows else old.rows ++ c.args.row ∷ []) fresh),
    )
