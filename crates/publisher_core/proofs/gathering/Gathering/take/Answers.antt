use Rattle.std.proofs.Common.{Option, OnOk, sym, subst}
use Rattle.audit_records.specs.declared.line.AuditLine.{AuditLine}
use Rattle.publisher_core.specs.Gathered.{Takes}
use Rattle.publisher_core.proofs.gathering.Gathering.take.Goals as goal

pub returns-in-Some-clause-ok : goal.returns-in-Some-clause-ok
returns-in-Some-clause-ok c =
    subst (λ (line : Option AuditLine). OnOk c.take_line.result (Takes (record { line = line; end = c.args.end }) c.args.self.now c.take_line.new.self c.args.records.now.items c.take_line.new.records.items)) (sym c.in-Some.is)
    c.take_line.ensures.ok

pub returns-in-None-clause-ok : goal.returns-in-None-clause-ok
returns-in-None-clause-ok c =
    subst (λ (line : Option AuditLine). OnOk c.skip.result (Takes (record { line = line; end = c.args.end }) c.args.self.now c.skip.new.self c.args.records.now.items c.skip.new.records.items)) (sym c.in-None.is)
    c.skip.ensures.ok
