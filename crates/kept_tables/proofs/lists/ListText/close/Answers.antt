use Rattle.std.proofs.Common.{◌≡◌, ℕ, List, true, false, length, sym, ap, ◌∙◌}
use Rattle.std.specs.Prelude.{◌==◌}
use Rattle.std.proofs.lemmas.Result.{IfOk-weaker}
use Rattle.kept_tables.proofs.Writing.{closes, closes_none}
use Rattle.kept_tables.proofs.lists.ListText.close.Goals as goal

pub returns-then-is_empty : goal.returns-then-is_empty
returns-then-is_empty c texts is =
    let none : (length c.self.inside.text == 0) ≡ true = ap (λ (t : List ℕ). length t == 0) c.self.view_is ∙ sym c.is_empty.ensures ∙ c.if-is_empty.true in
    IfOk-weaker c.closed.result _ _ (λ text made. made ∙ closes_none c.self.inside.text texts (c.self.view_is ∙ is) none) c.closed.ensures

pub returns-else-is_empty : goal.returns-else-is_empty
returns-else-is_empty c texts is =
    let some : (length c.self.inside.text == 0) ≡ false = ap (λ (t : List ℕ). length t == 0) c.self.view_is ∙ sym c.is_empty.ensures ∙ c.if-is_empty.false in
    IfOk-weaker c.closed-else-is_empty.result _ _ (λ text made. made ∙ closes c.self.inside.text texts (c.self.view_is ∙ is) some) c.closed-else-is_empty.ensures
