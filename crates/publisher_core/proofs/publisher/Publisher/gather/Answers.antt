use Rattle.std.proofs.Common.{◌≡◌, subst, Option}
use Rattle.audit_records.specs.declared.line.AuditLine.{AuditLine}
use Rattle.publisher_core.specs.Audit.{line_in}
use Rattle.publisher_core.specs.Standing.{Reader}
use Rattle.publisher_core.specs.Gathered.{Takes}
use Rattle.publisher_core.proofs.publisher.Publisher.gather.Goals as goal

pub returns-clause-gathered : goal.returns-clause-gathered
returns-clause-gathered g c = λ line at is.
    let found : c.in-Ok.line ≡ line_in line = c.in-Ok.ensures line at is in
    subst (λ (r : Reader). Takes (record { line = line_in line; end = c.args.end }) r.gathering c.take.new.self r.ready c.take.new.records.items) c.self.view_is
    (subst (λ (l : Option AuditLine). Takes (record { line = l; end = c.args.end }) c.self.inside.gathering c.take.new.self c.self.inside.ready.items c.take.new.records.items) found c.in-Ok-take.ensures.ok)
