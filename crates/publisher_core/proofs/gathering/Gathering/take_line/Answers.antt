use Rattle.std.proofs.Common.{List, [], ◌∷◌, ◌++◌, Some, sym, subst, ◌∙◌}
use Rattle.std.specs.Option.{option_to_list}
use Rattle.audit_records.specs.declared.line.AuditLine.{AuditLine}
use Rattle.audit_records.specs.Groups.{HasGrouped as StandsForGroups}
use Rattle.publisher_core.specs.declared.gathering.AuditRecord.{AuditRecord}
use Rattle.publisher_core.specs.AuditParts.{Item, lines_in, groups_in}
use Rattle.publisher_core.specs.Gathered.{HasGathered, Closes}
use Rattle.publisher_core.proofs.Steps.{settled, on_ok, gains_more}
use Rattle.publisher_core.proofs.gathering.Gathering.take_line.Goals as goal

pub returns-clause-ok : goal.returns-clause-ok
returns-clause-ok c =
    on_ok c.end_own.result (λ (ends : Closes c.settle.new.self c.end_own.new.self c.settle.new.records.items c.end_own.new.records.items) (given : List AuditRecord) (items : List Item) (stands : HasGathered given items c.args.self.now).
    let item : Item = record { line = Some c.args.line; end = c.args.end } in
    let lines = c.settle.ensures.builder ∙ c.in-Ok.ensures.held in
    let groups = subst (λ (ls : List AuditLine). StandsForGroups (groups_in given ++ option_to_list c.in-Ok.before) (lines_in items ++ c.args.line ∷ []) ls) (sym c.settle.ensures.builder)
    (c.in-Ok.ensures.stands (groups_in given) (lines_in items) stands.keeps.groups) in
    let (gained, settles) = settled given items c.args.self.now c.settle.new.self c.args.line c.args.end c.in-Ok.before c.args.records.now.items c.settle.new.records.items stands.keeps c.in-Ok.ensures.before lines groups c.in-Ok-settle.ensures.some c.in-Ok-settle.ensures.none c.in-Ok-settle.ensures.behind c.in-Ok-settle.ensures.last c.in-Ok-settle.ensures.holds in
    gains_more given gained (items ++ item ∷ []) c.end_own.new.self c.args.records.now.items c.settle.new.records.items c.end_own.new.records.items settles.0 (ends (given ++ gained) (items ++ item ∷ []) settles.1))
    c.end_own.ensures.ok
