use Rattle.std.proofs.Common.{subst, ◌==◌, ◌∷◌, [], ◌++◌, length, ap, sym, ◌∙◌}
use Rattle.audit_records.proofs.Builds.{stands_end, stands_none}
use Rattle.audit_records.specs.Runs.{AreRunsOf}
use Rattle.audit_records.proofs.Runs.{groups_of-runs}
use Rattle.audit_records.proofs.group.GroupBuilder.finish.Goals as goal

pub returns-then-is_empty-clause-all : goal.returns-then-is_empty-clause-all
returns-then-is_empty-clause-all c given pushed stands =
    let held = c.as_slice.ensures ∙ c.self.view_is in
    stands_none given pushed c.args.self.now (ap (λ h. length h == 0) (sym held) ∙ sym c.is_empty.ensures ∙ c.if-is_empty.true) stands

pub returns-else-is_empty-clause-all : goal.returns-else-is_empty-clause-all
returns-else-is_empty-clause-all c given pushed stands =
    let held = c.as_slice.ensures ∙ c.self.view_is in
    ap (λ h. given ++ h ∷ []) c.take_held.ensures.group
    ∙ stands_end given pushed c.args.self.now (ap (λ h. length h == 0) (sym held) ∙ sym c.is_empty.ensures ∙ c.if-is_empty.false) stands

pub returns-then-is_empty-clause-runs : goal.returns-then-is_empty-clause-runs
returns-then-is_empty-clause-runs c given pushed stands =
    subst (AreRunsOf pushed) (sym (returns-then-is_empty-clause-all c given pushed stands)) (groups_of-runs pushed)

pub returns-else-is_empty-clause-runs : goal.returns-else-is_empty-clause-runs
returns-else-is_empty-clause-runs c given pushed stands =
    subst (AreRunsOf pushed) (sym (returns-else-is_empty-clause-all c given pushed stands)) (groups_of-runs pushed)
