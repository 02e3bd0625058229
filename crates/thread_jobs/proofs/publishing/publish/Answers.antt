use Rattle.std.proofs.Common.{List, ℕ, inl, inr, subst, ◌∙◌}
use Rattle.std.proofs.lemmas.Result.{on_ok_weaker}
use Rattle.turn_lock.specs.Words.{number, seen}
use Rattle.shared_store.specs.Turns.{notes_of}
use Rattle.shared_store.specs.Words.{start_of}
use Rattle.daemon_rounds.specs.Turns.{Gave}
use Rattle.daemon_rounds.proofs.Counting.{step_counts, still_counts}
use Rattle.daemon_rounds.proofs.Turned.{may_append}
use Rattle.thread_jobs.specs.Publishing.{IsIntruded}
use Rattle.thread_jobs.proofs.Owning.{adds_none, same_self}
use Rattle.thread_jobs.proofs.Published.{rising_from, took_all, took_part, too_much}
use Rattle.thread_jobs.proofs.publishing.publish.Goals as goal

pub append_each-requires-clause-readings : goal.append_each-requires-clause-readings
append_each-requires-clause-readings g c lifetimes outlive = may_append c.in-Ok.readings c.in-Ok.ensures.each

pub append_each-requires-clause-rising : goal.append_each-requires-clause-rising
append_each-requires-clause-rising g c lifetimes outlive =
    rising_from (start_of c.args.store.now) (notes_of c.args.seat.now) c.args.feed.now c.step.new.self c.name.result.now c.in-Ok.readings (c.name.ensures ∙ c.in-Ok.ensures.source.0) c.requires.going c.in-Ok.ensures.rise

pub returns-in-Err-SourceFault-clause-part : goal.returns-in-Err-SourceFault-clause-part
returns-in-Err-SourceFault-clause-part g c = inl (adds_none (number c.args.seat.now) (seen c.args.seat.now))

pub returns-in-Err-SourceFault-clause-unread : goal.returns-in-Err-SourceFault-clause-unread
returns-in-Err-SourceFault-clause-unread g c is = adds_none (number c.args.seat.now) (seen c.args.seat.now)

pub returns-in-Err-NoMemory-clause-part : goal.returns-in-Err-NoMemory-clause-part
returns-in-Err-NoMemory-clause-part g c = inl (adds_none (number c.args.seat.now) (seen c.args.seat.now))

pub returns-clause-part : goal.returns-clause-part
returns-clause-part g c =
    let before = g.S.Source.left c.args.source.now in
    let after = g.S.Source.left c.step.new.source in
    let gave : Gave g.S.Source.tells before after c.args.feed.now c.step.new.self c.args.most c.in-Ok.readings = record { steps = c.in-Ok.ensures.steps; each = c.in-Ok.ensures.each; rise = c.in-Ok.ensures.rise; same = c.in-Ok.ensures.same } in
    inr (took_part g.S.Source.tells before after c.args.most (number c.args.seat.now) (seen c.args.seat.now) (seen c.append_each.new.seat) c.args.feed.now c.step.new.self c.name.result.now c.in-Ok.readings (c.name.ensures ∙ c.in-Ok.ensures.source.0) gave
    c.append_each.ensures.front)

pub returns-clause-published : goal.returns-clause-published
returns-clause-published g c =
    let before = g.S.Source.left c.args.source.now in
    let after = g.S.Source.left c.step.new.source in
    let gave : Gave g.S.Source.tells before after c.args.feed.now c.step.new.self c.args.most c.in-Ok.readings = record { steps = c.in-Ok.ensures.steps; each = c.in-Ok.ensures.each; rise = c.in-Ok.ensures.rise; same = c.in-Ok.ensures.same } in
    on_ok_weaker c.append_each.result
    (took_all g.S.Source.tells before after c.args.most (number c.args.seat.now) (seen c.args.seat.now) (seen c.append_each.new.seat) c.args.feed.now c.step.new.self c.name.result.now c.in-Ok.readings (c.name.ensures ∙ c.in-Ok.ensures.source.0) gave)
    c.append_each.ensures.published

pub returns-clause-intruded : goal.returns-clause-intruded
returns-clause-intruded g c is =
    subst (λ (l : List ℕ). IsIntruded (number c.args.seat.now) (seen c.args.seat.now) (seen c.append_each.new.seat) l) (c.name.ensures ∙ c.in-Ok.ensures.source.0) (c.append_each.ensures.intruded is)

pub returns-clause-spent : goal.returns-clause-spent
returns-clause-spent g c is =
    let before = g.S.Source.left c.args.source.now in
    let after = g.S.Source.left c.step.new.source in
    let gave : Gave g.S.Source.tells before after c.args.feed.now c.step.new.self c.args.most c.in-Ok.readings = record { steps = c.in-Ok.ensures.steps; each = c.in-Ok.ensures.each; rise = c.in-Ok.ensures.rise; same = c.in-Ok.ensures.same } in
    too_much g.S.Source.tells before after c.args.most (number c.args.seat.now) (seen c.args.seat.now) (seen c.append_each.new.seat) c.args.feed.now c.step.new.self c.name.result.now c.in-Ok.readings (c.name.ensures ∙ c.in-Ok.ensures.source.0) gave
    (start_of c.args.store.now) (c.append_each.ensures.spent is)

pub returns-clause-unread : goal.returns-clause-unread
returns-clause-unread g c is = absurd (c.append_each.ensures.source is)

pub returns-clause-cause : goal.returns-clause-cause
returns-clause-cause g c = record { later = c.step.ensures.cause.later; failed = λ is. absurd (c.append_each.ensures.source is) }

pub returns-in-Err-SourceFault-clause-counts : goal.returns-in-Err-SourceFault-clause-counts
returns-in-Err-SourceFault-clause-counts g c = still_counts g.S.Source.tells (g.S.Source.left c.args.source.now) c.args.feed.now c.step.new.self c.step.ensures.source.0 c.step.ensures.source.1 c.in-Err-SourceFault.ensures.uncounted

pub returns-in-Err-NoMemory-clause-counts : goal.returns-in-Err-NoMemory-clause-counts
returns-in-Err-NoMemory-clause-counts g c = still_counts g.S.Source.tells (g.S.Source.left c.args.source.now) c.args.feed.now c.step.new.self c.step.ensures.source.0 c.step.ensures.source.1 c.in-Err-NoMemory.ensures.uncounted

pub returns-clause-counts : goal.returns-clause-counts
returns-clause-counts g c =
    step_counts g.S.Source.tells (g.S.Source.left c.args.source.now) (g.S.Source.left c.step.new.source) c.args.feed.now c.step.new.self c.args.most c.in-Ok.readings (record { steps = c.in-Ok.ensures.steps; each = c.in-Ok.ensures.each; rise = c.in-Ok.ensures.rise; same = c.in-Ok.ensures.same })
