use Rattle.std.proofs.Common.{rules, length, map, List, sym, subst, ap, arith}
use Rattle.std.proofs.lemmas.List.{length-map}
use Rattle.thread_jobs.specs.declared.forking.Job.{Job}
use Rattle.thread_rounds.specs.Seats.{AreSplit}
use Rattle.thread_rounds.proofs.Seated.{pushed_long, pushed_map, split_none, split_one}
use Rattle.thread_rounds.proofs.seats.split_jobs.Goals as goal

pub loop-who-init : goal.loop-who-init
loop-who-init c =
    let none = c.requires.none in (
      subst (λ (l : List Job). AreSplit c.args.store.now c.args.first.now c.args.first.now (map (λ (job : Job). job.seat) l)) (sym none) (split_none c.args.store.now c.args.first.now c.requires.seat),
      ap (λ (l : List Job). length l) none,
      c.requires.reserved,
    )

pub split-requires-clause-seat : goal.split-requires-clause-seat
split-requires-clause-seat c = c.loop-who.invariant.0.stays.of

pub split-requires-clause-rest : goal.split-requires-clause-rest
split-requires-clause-rest c = c.loop-who.invariant.0.stays.rest

pub split-requires-clause-first : goal.split-requires-clause-first
split-requires-clause-first c = c.loop-who.invariant.0.stays.first

pub split-requires-clause-room : goal.split-requires-clause-room
split-requires-clause-room c =
    let out = c.loop-who.invariant.0.out in
    let long = length-map c.loop-who.jobs.items (λ (job : Job). job.seat) in
    let count = c.loop-who.invariant.1 in
    let room = c.requires.room in
    search rules

pub loop-who-preserved : goal.loop-who-preserved
loop-who-preserved c =
    let s = c.in_ok-seat.ensures in
    let before = c.loop-who.invariant in
    let items = c.push_reserved.ensures.items in
    let more = split_one c.args.store.now c.args.first.now c.loop-who.first c.split.new.seat c.in_ok-seat.seat (map (λ (job : Job). job.seat) c.loop-who.jobs.items) before.0 s.seat s.counts s.out s.new s.same s.fresh in
    let long = pushed_long c.loop-who.jobs.items _ _ items in (
      subst (AreSplit c.args.store.now c.args.first.now c.split.new.seat) (sym (pushed_map (λ (job : Job). job.seat) c.loop-who.jobs.items _ _ items)) more,
      omega (arith, long, before.1),
      search rules,
    )

pub returns-in_err-seat-clause-split : goal.returns-in_err-seat-clause-split
returns-in_err-seat-clause-split c =
    subst (λ first. AreSplit c.args.store.now c.args.first.now first (map (λ (job : Job). job.seat) c.loop-who.jobs.items)) (sym c.in_err-seat.ensures.refused) c.loop-who.invariant.0
