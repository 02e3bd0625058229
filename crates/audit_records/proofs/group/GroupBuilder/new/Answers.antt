use Rattle.std.proofs.Common.{[], sym, subst}
use Rattle.audit_records.specs.Groups.{HasGrouped}
use Rattle.audit_records.proofs.Builds.{stands_new}
use Rattle.audit_records.proofs.group.GroupBuilder.new.Goals as goal

pub returns-clause-stands : goal.returns-clause-stands
returns-clause-stands c = subst (λ held. HasGrouped [] [] held) (sym c.new.ensures) stands_new
