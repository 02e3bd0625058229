use Rattle.std.proofs.Common.{◌≡◌, ◌∙◌, ℕ, ◌+◌, length, sym, ap, subst, arith, [], ◌++◌, List}
use Rattle.record_lines.specs.Cutting as cutting
use Rattle.publisher_core.specs.declared.gathering.AuditRecord.{AuditRecord}
use Rattle.publisher_core.specs.Records.{ended}
use Rattle.publisher_core.specs.Standing.{Reader, HasFound}
use Rattle.publisher_core.specs.Stepping.{Grows, IsDrained}
use Rattle.publisher_core.proofs.Standing.{popped, popped_grows, dry, same_reader, no_front}
use Rattle.publisher_core.proofs.publisher.Publisher.next_record.Goals as goal

pub returns-in-Some-clause-goes : goal.returns-in-Some-clause-goes
returns-in-Some-clause-goes g c = λ given start stream s.
    popped _ c.give_audit.new.self given start stream c.in-Some.made c.give_audit.result c.pop_front.new.self.items
    (subst (λ (r : Reader). HasFound r given start stream) (sym c.self.view_is) s) c.in-Some.ensures.items c.give_audit.ensures.given c.give_audit.ensures.taken

pub returns-in_default-take_line-clause-goes : goal.returns-in_default-take_line-clause-goes
returns-in_default-take_line-clause-goes g c = λ given start stream s.
    let same = same_reader _ c.take_line.new.self c.pop_front.new.self.items c.in_default-take_line.ensures.same (sym c.in_default.ensures.items) ∙ c.self.view_is in
    let none : c.args.self.now.ready ≡ [] = sym (ap (λ (r : Reader). r.ready) c.self.view_is) ∙ no_front c.self.inside.ready.items (c.in_default.ensures.items ∙ c.in_default.ensures.rest) in
    let plain = c.in_default-take_line.ensures.none (start + length (ended (s.lines ++ s.held))) s.rest
    (subst (λ (r : Reader). cutting.HasCut r.cutter (start + length (ended (s.lines ++ s.held))) s.rest) (sym c.self.view_is) s.cutter) in
    subst (λ (r : Reader). IsDrained r given start stream) (sym same) (dry c.args.self.now given start stream s none plain)

pub returns-clause-goes : goal.returns-clause-goes
returns-clause-goes g c = λ given start stream s.
    let line = c.in-Some-take_line.ensures.some (start + length (ended (s.lines ++ s.held))) s.rest
    (subst (λ (r : Reader). cutting.HasCut r.cutter (start + length (ended (s.lines ++ s.held))) s.rest) (sym c.self.view_is) s.cutter) in
    let same = ap (λ (rs : List AuditRecord). record { kind = c.self.inside.kind; paths = c.self.inside.subscription.paths; taken = c.self.inside.taken; cutter = c.take_line.new.self; gathering = c.self.inside.gathering; ready = rs; is_begun = c.self.inside.is_begun; is_ended = c.self.inside.is_ended; is_spent = c.self.inside.is_spent }) (sym c.in_default.ensures.items)
    ∙ ap (λ (r : Reader). record r { cutter = c.take_line.new.self }) c.self.view_is in
    c.in-Ok.ensures.goes c.args.self.now given start stream
    (record {
      stands = s;
      same = same;
      line = subst (λ (r : Reader). cutting.TakesLine r.cutter c.take_line.new.self (start + length (ended (s.lines ++ s.held))) s.rest c.in-Some-take_line.cut) c.self.view_is line;
    })

pub returns-clause-grown : goal.returns-clause-grown
returns-clause-grown g c = λ given start stream s.
    let line = c.in-Some-take_line.ensures.some (start + length (ended (s.lines ++ s.held))) s.rest
    (subst (λ (r : Reader). cutting.HasCut r.cutter (start + length (ended (s.lines ++ s.held))) s.rest) (sym c.self.view_is) s.cutter) in
    let same = ap (λ (rs : List AuditRecord). record { kind = c.self.inside.kind; paths = c.self.inside.subscription.paths; taken = c.self.inside.taken; cutter = c.take_line.new.self; gathering = c.self.inside.gathering; ready = rs; is_begun = c.self.inside.is_begun; is_ended = c.self.inside.is_ended; is_spent = c.self.inside.is_spent }) (sym c.in_default.ensures.items)
    ∙ ap (λ (r : Reader). record r { cutter = c.take_line.new.self }) c.self.view_is in
    subst (λ (n : ℕ). Grows n c.take_line-2.new.self.taken c.in-Ok.next) (ap (λ (r : Reader). r.taken) c.self.view_is)
    (c.in-Ok.ensures.grown c.args.self.now given start stream
    (record {
      stands = s;
      same = same;
      line = subst (λ (r : Reader). cutting.TakesLine r.cutter c.take_line.new.self (start + length (ended (s.lines ++ s.held))) s.rest c.in-Some-take_line.cut) c.self.view_is line;
    }))

pub returns-in-Some-clause-grown : goal.returns-in-Some-clause-grown
returns-in-Some-clause-grown g c = λ given start stream s.
    let less = popped_grows _ given start stream c.in-Some.made c.pop_front.new.self.items (subst (λ (r : Reader). HasFound r given start stream) (sym c.self.view_is) s) c.in-Some.ensures.items in
    let before = ap (λ (r : Reader). r.taken) c.self.view_is in
    let after = ap (λ (r : Reader). r.taken) c.give_audit.ensures.taken in
    omega (arith, less, before, after)
