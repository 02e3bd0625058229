use Rattle.std.proofs.Common.{List, [], ◌∷◌, ◌++◌, sym, subst, refl}
use Rattle.std.proofs.lemmas.List.{append-nil}
use Rattle.publisher_core.specs.declared.gathering.AuditRecord.{AuditRecord}
use Rattle.publisher_core.specs.declared.gathering.Gathering.{Gathering}
use Rattle.publisher_core.specs.Gathered.{HasGathered, skipped_line, lone}
use Rattle.publisher_core.proofs.Steps.{waits, alone}
use Rattle.publisher_core.proofs.gathering.Gathering.skip.Goals as goal

pub returns-in_ok-push-clause-ok : goal.returns-in_ok-push-clause-ok
returns-in_ok-push-clause-ok c given items stands =
    let old = c.args.self.now in
    let new : Gathering = record { builder = old.builder; holds = old.holds; last = old.last; inside = old.inside; behind = c.push.new.self } in
    let later = waits given items old new c.args.end stands c.if-self.true refl refl refl refl c.in_ok-push.ensures.items in
    ([], (sym (append-nil c.args.records.now.items), subst (λ (rs : List AuditRecord). HasGathered rs (items ++ skipped_line c.args.end ∷ []) new) (sym (append-nil given)) later))

pub returns-in_ok-give_lone-clause-ok : goal.returns-in_ok-give_lone-clause-ok
returns-in_ok-give_lone-clause-ok c given items stands =
    (lone c.args.end ∷ [], (c.in_ok-give_lone.ensures.ok, alone given items c.args.self.now c.args.end stands c.if-self.false))
