use Rattle.std.proofs.Common.{[], ◌∷◌, sym, subst}
use Rattle.std.specs.Prelude.{All}
use Rattle.std.proofs.lemmas.List.Elements.{All-nil, All-cons, All-append}
use Rattle.session_state.specs.Sealing.{IsSealable}
use Rattle.session_state.proofs.tail.Tail.put.Goals as goal

pub invariant_of-self-inside : goal.invariant_of-self-inside
invariant_of-self-inside c =
    let own = All-cons IsSealable c.args.entry [] c.requires.sealable (All-nil IsSealable) in
    (subst (All IsSealable) (sym c.push_reserved.ensures.items) (All-append IsSealable c.self.inside.entries.items (c.args.entry ∷ []) c.self.inside.sealable own), tt)
