use Rattle.std.proofs.Common.{◌∙◌, sym, ap, subst, refl, inl}
use Rattle.osq_value.specs.declared.source.SourceKind.TheVariants.{Changes}
use Rattle.publisher_core.specs.Standing.{Reader}
use Rattle.publisher_core.specs.Stepping.{IsDrained}
use Rattle.publisher_core.proofs.Standing.{ended_by_lines, ended_audit}
use Rattle.publisher_core.proofs.publisher.Publisher.end.Goals as goal

pub returns-in-Ok-clause-ended : goal.returns-in-Ok-clause-ended
returns-in-Ok-clause-ended g c = λ given start stream d.
    ended_audit _ _ given start stream (subst (λ (r : Reader). IsDrained r given start stream) (sym c.self.view_is) d) c.in-Audit.is
    (ap (λ (r : Reader). r.is_ended) c.self.view_is ∙ c.requires.more) c.in-Ok.ensures.ok refl

pub returns-in-Changes-clause-ended : goal.returns-in-Changes-clause-ended
returns-in-Changes-clause-ended g c = λ given start stream d.
    ended_by_lines Changes _ _ given start stream (subst (λ (r : Reader). IsDrained r given start stream) (sym c.self.view_is) d) c.in-Changes.is (inl refl) refl
