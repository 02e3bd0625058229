use Rattle.std.proofs.Common.{sym, subst}
use Rattle.std.specs.Prelude.{All}
use Rattle.std.proofs.lemmas.List.Elements.{All-take}
use Rattle.session_state.specs.Sealing.{IsSealable}
use Rattle.session_state.proofs.tail.Tail.pop.Goals as goal

pub invariant_of-self-inside : goal.invariant_of-self-inside
invariant_of-self-inside c =
    (subst (All IsSealable) (sym c.pop.ensures.rest) (All-take IsSealable _ c.self.inside.entries.items c.self.inside.sealable), tt)
