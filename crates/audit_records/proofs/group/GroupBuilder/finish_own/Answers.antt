use Rattle.std.proofs.Common.{◌∷◌, [], ◌++◌, ap, sym, subst, ◌∙◌}
use Rattle.audit_records.specs.Groups.{HasGrouped, is_ended}
use Rattle.audit_records.proofs.Builds.{stands_own}
use Rattle.audit_records.proofs.group.GroupBuilder.finish_own.Goals as goal

pub returns-then-is_ended-clause-stands : goal.returns-then-is_ended-clause-stands
returns-then-is_ended-clause-stands c given pushed stands =
    let held = c.as_slice.ensures ∙ c.self.view_is in
    subst (λ h. HasGrouped (given ++ h ∷ []) pushed c.take_held.new.self) (sym c.take_held.ensures.group)
    (subst (λ h. HasGrouped (given ++ c.args.self.now ∷ []) pushed h) (sym c.take_held.ensures.empty)
    (stands_own given pushed c.args.self.now (ap is_ended (sym held) ∙ sym c.is_ended.ensures ∙ c.if-is_ended.true) stands))
