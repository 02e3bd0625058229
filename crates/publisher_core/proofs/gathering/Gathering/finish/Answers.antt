use Rattle.std.proofs.Common.{◌≡◌, List, [], ◌++◌, sym, subst, ◌∙◌}
use Rattle.std.proofs.lemmas.List.{append-nil}
use Rattle.audit_records.specs.Runs.{AreWholeRuns}
use Rattle.publisher_core.specs.declared.gathering.AuditRecord.{AuditRecord}
use Rattle.publisher_core.specs.declared.gathering.Gathering.{Gathering}
use Rattle.publisher_core.specs.AuditParts.{Item, AreRecordsOf, lines_in, groups_in}
use Rattle.publisher_core.specs.Gathered.{ended_records, HoldsNothing, HasGathered}
use Rattle.publisher_core.proofs.Steps.{lines_hold, no_lines_hold, nothing_kept, nothing_stands, parts_ended, groups_ended, on_ok, on_both, gave_all, whole_some, whole_none}
use Rattle.publisher_core.proofs.gathering.Gathering.finish.Goals as goal

pub returns-in-Some-clause-ok : goal.returns-in-Some-clause-ok
returns-in-Some-clause-ok c =
    let old = c.args.self.now in
    let gained : List AuditRecord = ended_records old c.in-Some.group in
    let group = whole_some old.builder c.in-Some.group c.in-Some.ensures.group in
    let nothing = gave_all c.give.result c.give.new.self c.give.ensures.behind c.give.ensures.inside c.give.ensures.holds (c.give.ensures.builder ∙ c.finish.ensures.empty) in
    on_ok c.give.result (λ (p : (c.give.new.records.items ≡ c.args.records.now.items ++ gained) × HoldsNothing c.give.new.self) (given : List AuditRecord) (items : List Item) (stands : HasGathered given items old).
    let held = lines_hold given items old stands.keeps group.1 in
    let cut = parts_ended given items old c.in-Some.group stands.keeps held group.0 in
    let runs = c.in-Some.ensures.runs (groups_in given) (lines_in items) stands.keeps.groups in
    let are : AreRecordsOf items (given ++ gained) = record {
      parts = cut.parts;
      joined = cut.joined;
      each = cut.each;
      whole = subst AreWholeRuns (sym (groups_ended given old c.in-Some.group)) runs.runs;
    } in
    (gained, (p.0, (are, (p.1, nothing_stands c.give.new.self p.1)))))
    (on_both (c.give.new.records.items ≡ c.args.records.now.items ++ gained) (HoldsNothing c.give.new.self) c.give.result c.give.ensures.records nothing)

pub returns-in-None-clause-ok : goal.returns-in-None-clause-ok
returns-in-None-clause-ok c given items stands =
    let old = c.args.self.now in
    let none = no_lines_hold given items old stands.keeps (whole_none old.builder c.in-None.ensures.group) in
    let kept = nothing_kept given items old stands.keeps none in
    let new : Gathering = record { builder = c.finish.new.self; holds = old.holds; last = old.last; inside = old.inside; behind = old.behind } in
    let nothing : HoldsNothing new = record { none = none; lines = c.finish.ensures.empty; skipped = kept.1.skipped; behind = kept.1.behind } in
    ([], (sym (append-nil c.args.records.now.items), (subst (λ (rs : List AuditRecord). AreRecordsOf items rs) (sym (append-nil given)) kept.0, (nothing, nothing_stands new nothing))))
