use Rattle.std.proofs.Common.{◌≡◌, ℕ, List, true, false, length, sym, ap, ◌∙◌}
use Rattle.std.specs.Prelude.{◌==◌}
use Rattle.std.proofs.lemmas.Result.{on_ok_weaker}
use Rattle.kept_tables.proofs.Writing.{opens, goes_on}
use Rattle.kept_tables.proofs.lists.ListText.push.Goals as goal

pub returns-then-is_empty : goal.returns-then-is_empty
returns-then-is_empty g c texts is =
    let none : (length c.self.inside.text == 0) ≡ true = ap (λ (t : List ℕ). length t == 0) c.self.view_is ∙ sym c.is_empty.ensures ∙ c.if-is_empty.true in
    on_ok_weaker c.add_item.result (λ made. made ∙ opens c.self.inside.text texts _ (c.self.view_is ∙ is) none) c.add_item.ensures

pub returns-else-is_empty : goal.returns-else-is_empty
returns-else-is_empty g c texts is =
    let some : (length c.self.inside.text == 0) ≡ false = ap (λ (t : List ℕ). length t == 0) c.self.view_is ∙ sym c.is_empty.ensures ∙ c.if-is_empty.false in
    on_ok_weaker c.add_item-else-is_empty.result (λ made. made ∙ goes_on c.self.inside.text texts _ (c.self.view_is ∙ is) some) c.add_item-else-is_empty.ensures
