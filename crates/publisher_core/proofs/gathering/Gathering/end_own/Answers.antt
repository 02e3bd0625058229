use Rattle.std.proofs.Common.{◌≡◌, Bool, cond, List, [], ◌∷◌, ◌++◌, ap, sym, subst, ◌∙◌}
use Rattle.std.proofs.lemmas.List.{append-nil}
use Rattle.std.proofs.lemmas.Bool.{true≢false}
use Rattle.audit_records.specs.declared.line.AuditLine.{AuditLine}
use Rattle.audit_records.specs.Groups.{is_ended, HasGrouped as StandsForGroups}
use Rattle.publisher_core.specs.declared.gathering.AuditRecord.{AuditRecord}
use Rattle.publisher_core.specs.AuditParts.{Item, lines_in, groups_in}
use Rattle.publisher_core.specs.Gathered.{ended_records, HoldsNothing, Keeps, HasGathered}
use Rattle.publisher_core.proofs.Steps.{own_some, own_none, lines_hold, parts_ended, groups_ended, all_given, on_ok, on_both, gave_all}
use Rattle.publisher_core.proofs.gathering.Gathering.end_own.Goals as goal

pub returns-in-Some-clause-ok : goal.returns-in-Some-clause-ok
returns-in-Some-clause-ok c =
    let old = c.args.self.now in
    let gained : List AuditRecord = ended_records old c.in-Some.group in
    let own = own_some old.builder c.in-Some.group c.in-Some.ensures.own in
    let emptied : c.finish_own.new.self ≡ [] = c.finish_own.ensures.held ∙ ap (λ (b : Bool). cond b [] old.builder) own.0 in
    let nothing = gave_all c.give.result c.give.new.self c.give.ensures.behind c.give.ensures.inside c.give.ensures.holds (c.give.ensures.builder ∙ emptied) in
    on_ok c.give.result (λ (p : (c.give.new.records.items ≡ c.args.records.now.items ++ gained) × HoldsNothing c.give.new.self) (given : List AuditRecord) (items : List Item) (keeps : Keeps given items old).
    let held = lines_hold given items old keeps (λ (no : old.builder ≡ []). true≢false (sym own.0 ∙ ap is_ended no)) in
    let parts = parts_ended given items old c.in-Some.group keeps held own.1 in
    let groups : StandsForGroups (groups_in (given ++ gained)) (lines_in items) c.give.new.self.builder =
    subst (λ (gs : List (List AuditLine)). StandsForGroups gs (lines_in items) c.give.new.self.builder) (sym (groups_ended given old c.in-Some.group))
    (subst (λ (ls : List AuditLine). StandsForGroups (groups_in given ++ c.in-Some.group ∷ []) (lines_in items) ls) (sym c.give.ensures.builder)
    (c.in-Some.ensures.stands (groups_in given) (lines_in items) keeps.groups)) in
    (gained, (p.0, all_given (given ++ gained) items c.give.new.self parts p.1 groups)))
    (on_both (c.give.new.records.items ≡ c.args.records.now.items ++ gained) (HoldsNothing c.give.new.self) c.give.result c.give.ensures.records nothing)

pub returns-in-None-clause-ok : goal.returns-in-None-clause-ok
returns-in-None-clause-ok c given items keeps =
    let old = c.args.self.now in
    let unended = own_none old.builder c.in-None.ensures.own in
    let same : c.finish_own.new.self ≡ old.builder = c.finish_own.ensures.held ∙ ap (λ (b : Bool). cond b [] old.builder) unended in
    let stands : HasGathered given items old = record { keeps = keeps; unended = unended } in
    let at_new = subst (λ (ls : List AuditLine). HasGathered given items (record { builder = ls; holds = old.holds; last = old.last; inside = old.inside; behind = old.behind })) (sym same) stands in
    ([], (sym (append-nil c.args.records.now.items), subst (λ (rs : List AuditRecord). HasGathered rs items (record { builder = c.finish_own.new.self; holds = old.holds; last = old.last; inside = old.inside; behind = old.behind })) (sym (append-nil given)) at_new))
