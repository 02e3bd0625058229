use Rattle.std.proofs.Common.{sym, subst}
use Rattle.std.specs.Prelude.{All}
use Rattle.session_state.specs.Sealing.{IsSealable}
use Rattle.session_state.proofs.tail.Tail.reserve.Goals as goal

pub invariant_of-self-inside : goal.invariant_of-self-inside
invariant_of-self-inside c = (subst (All IsSealable) (sym c.reserve.ensures.items) c.self.inside.sealable, tt)

pub invariant_of-self-inside-2 : goal.invariant_of-self-inside-2
invariant_of-self-inside-2 c = (subst (All IsSealable) (sym c.in_ok-reserve.ensures.items) c.self.inside.sealable, tt)
