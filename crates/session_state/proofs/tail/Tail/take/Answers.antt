use Rattle.std.proofs.Common.{sym, ap, ◌∙◌, subst}
use Rattle.std.specs.Prelude.{All}
use Rattle.session_state.specs.Sealing.{IsSealable}
use Rattle.session_state.proofs.tail.Tail.take.Goals as goal

pub returns-clause-sealable : goal.returns-clause-sealable
returns-clause-sealable c =
    subst (All IsSealable) (sym (c.from_vec.ensures ∙ ap (λ v. v.items) c.replace-entries.ensures.value)) c.self.inside.sealable
