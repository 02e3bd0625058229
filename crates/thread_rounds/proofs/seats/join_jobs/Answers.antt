use Rattle.std.proofs.Common.{rules, ℕ, ◌≡◌, ◌∷◌, [], All, length, map, List, subst, ap, ◌∙◌}
use Rattle.turn_lock.proofs.Lists.{all_left}
use Rattle.shared_store.proofs.Seats.{none_of}
use Rattle.thread_jobs.specs.declared.forking.Job.{Job}
use Rattle.thread_rounds.specs.Ends.{refused_at}
use Rattle.thread_rounds.specs.Seats.{AreJoined, IsLater}
use Rattle.thread_rounds.proofs.Ended.{done_are, refused_all, refused_none, refused_one}
use Rattle.thread_rounds.proofs.Seated.{join_none, join_one}
use Rattle.thread_rounds.proofs.seats.join_jobs.Goals as goal

pub loop-job-init : goal.loop-job-init
loop-job-init c = (refused_none c.args.jobs.items, join_none c.args.store.now c.args.first.now c.requires.seat, c.requires.jobs)

pub loop-job-preserved : goal.loop-job-preserved
loop-job-preserved c =
    let before = c.loop-job.invariant in
    let popped = c.in-Some.ensures.items in
    let join = c.join.ensures in
    let later = subst (All (λ (job : Job). IsLater c.args.store.now job.seat)) popped before.2 in
    let long : c.len.result ≡ length c.pop.new.self.items = search rules in (
      refused_one c.args.jobs.items c.loop-job.jobs.items c.pop.new.self.items c.in-Some.job c.loop-job.refused c.refused_at-refused.result before.0 popped
          (c.refused_at-refused.ensures ∙ ap (λ (n : ℕ). refused_at n c.in-Some.job.end c.loop-job.refused) long),
      join_one c.args.store.now c.args.first.now c.loop-job.first c.join.new.seat c.in-Some.job.seat (map (λ (job : Job). job.seat) before.0.done) c.requires.seat.first before.1 join.seat join.counts join.out join.own join.theirs join.numbered,
      all_left (λ (job : Job). IsLater c.args.store.now job.seat) c.pop.new.self.items (c.in-Some.job ∷ []) later,
    )

pub returns-clause-joined : goal.returns-clause-joined
returns-clause-joined c =
    let so = c.loop-job.invariant in
    let empty = c.in_default.ensures.cases.0 in
    let none : length c.loop-job.jobs.items ≡ 0 = search rules in
    subst (λ (l : List Job). AreJoined c.args.store.now c.args.first.now c.loop-job.first (map (λ (job : Job). job.seat) l)) (done_are c.args.jobs.items c.loop-job.jobs.items c.loop-job.refused so.0 (none_of c.loop-job.jobs.items none)) so.1

pub returns-clause-refused : goal.returns-clause-refused
returns-clause-refused c =
    let empty = c.in_default.ensures.cases.0 in
    let none : length c.loop-job.jobs.items ≡ 0 = search rules in
    refused_all c.args.jobs.items c.loop-job.jobs.items c.loop-job.refused c.loop-job.invariant.0 (none_of c.loop-job.jobs.items none)
