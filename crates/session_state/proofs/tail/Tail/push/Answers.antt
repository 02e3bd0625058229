use Rattle.std.proofs.Common.{List, [], ◌∷◌, ◌++◌, sym, ap, ◌∙◌, subst}
use Rattle.std.specs.Prelude.{All}
use Rattle.std.proofs.lemmas.List.Elements.{All-nil, All-cons, All-append}
use Rattle.entry_model.specs.declared.entry.Entry.{Entry}
use Rattle.session_state.specs.Sealing.{IsSealable}
use Rattle.session_state.proofs.tail.Tail.push.Goals as goal

pub invariant_of-self-inside : goal.invariant_of-self-inside
invariant_of-self-inside c = (subst (All IsSealable) (sym c.reserve.ensures.items) c.self.inside.sealable, tt)

pub invariant_of-self-inside-2 : goal.invariant_of-self-inside-2
invariant_of-self-inside-2 c =
    let pushed = c.push_reserved.ensures.items ∙ ap (λ (entries : List Entry). entries ++ c.args.entry ∷ []) c.in_ok-reserve.ensures.items in
    let own = All-cons IsSealable c.args.entry [] c.requires (All-nil IsSealable) in
    (subst (All IsSealable) (sym pushed) (All-append IsSealable c.self.inside.entries.items (c.args.entry ∷ []) c.self.inside.sealable own), tt)
