use Rattle.std.proofs.Common.{rules, ◌≡◌, ◌<◌, ◌++◌, All, List, length, map, refl, sym, subst, ap, ◌∙◌, arith, length-append}
use Rattle.std.proofs.lemmas.List.{with_items_is}
use Rattle.turn_lock.specs.Words.{joined, number, seen, split_off}
use Rattle.daemon_rounds.proofs.Counting.{all_count}
use Rattle.thread_jobs.specs.declared.forking.Job.{Job}
use Rattle.thread_jobs.specs.Forking.{ArePaired, MayPublishAll, MayWorkAll}
use Rattle.thread_rounds.specs.Ends.{first_refused}
use Rattle.thread_rounds.specs.Seats.{AreJoined, IsLater}
use Rattle.thread_rounds.proofs.Seated.{alone_again, all_unmapped, are_back, map_twice}
use Rattle.thread_rounds.proofs.Stepped.{counts_all, ended_fault, ended_ok, ended_spent, fails_first, going_done, later_backs, later_seats, may_publish_all, may_work_all, none_intruded, same_numbers, seen_seats, spent_first, step_done}
use Rattle.thread_rounds.proofs.stepping.work_step.Goals as goal

pub split_jobs-requires-clause-seat : goal.split_jobs-requires-clause-seat
split_jobs-requires-clause-seat g c =
    c.requires.seat.stays

pub split_jobs-requires-clause-room : goal.split_jobs-requires-clause-room
split_jobs-requires-clause-room g c =
    let alone = c.requires.seat.alone in
    let room = c.requires.room in
    omega (arith, alone, room)

pub split_at_mut-front-requires : goal.split_at_mut-front-requires
split_at_mut-front-requires g c =
    let all = c.in-Ok-split_jobs.ensures.all in
    let whole = ap (λ (l : List Job). length l) c.as_mut_slice.ensures.value in
    omega (arith, all, whole)

pub do_all-requires : goal.do_all-requires
do_all-requires g c =
    let jobs = c.split_jobs.new.jobs.items in
    let ps = c.split_at_mut-front.result.0.now in
    let ws = c.split_at_mut-front.result.1.now in
    let jobs_are : jobs ≡ ps ++ ws = sym c.as_mut_slice.ensures.value ∙ c.split_at_mut-front.ensures.value in
    let later = all_unmapped (IsLater c.args.store.now) (λ (job : Job). job.seat) jobs (later_seats c.args.store.now c.args.first.now c.split_jobs.new.first (map (λ (job : Job). job.seat) jobs) c.split_jobs.ensures.split) in
    let sees = all_unmapped (λ seat. seen seat ≡ seen c.args.first.now) (λ (job : Job). job.seat) jobs (seen_seats c.args.store.now c.args.first.now c.split_jobs.new.first (map (λ (job : Job). job.seat) jobs) c.split_jobs.ensures.split) in
    let front_long = c.split_at_mut-front.ensures.front_len in
    let may_publish : MayPublishAll c.args.store.now ps c.args.feeds.now = may_publish_all c.args.store.now (seen c.args.first.now) jobs ps ws c.args.feeds.now jobs_are later sees c.requires.going (sym front_long) in
    let pairs : ArePaired ps c.args.feeds.now c.args.sources.now = record { feeds_long = sym front_long; sources_long = c.requires.paired ∙ sym front_long } in
    let may_work : MayWorkAll c.args.store.now ws = may_work_all c.args.store.now (seen c.args.first.now) jobs ps ws c.args.feeds.now jobs_are later in
    search rules

pub join_jobs-requires-clause-seat : goal.join_jobs-requires-clause-seat
join_jobs-requires-clause-seat g c =
    c.split_jobs.ensures.split.stays

pub join_jobs-requires-clause-jobs : goal.join_jobs-requires-clause-jobs
join_jobs-requires-clause-jobs g c =
    let jobs = c.split_jobs.new.jobs.items in
    let ps = c.split_at_mut-front.result.0.now in
    let ws = c.split_at_mut-front.result.1.now in
    let jobs_are : jobs ≡ ps ++ ws = sym c.as_mut_slice.ensures.value ∙ c.split_at_mut-front.ensures.value in
    let later = all_unmapped (IsLater c.args.store.now) (λ (job : Job). job.seat) jobs (later_seats c.args.store.now c.args.first.now c.split_jobs.new.first (map (λ (job : Job). job.seat) jobs) c.split_jobs.ensures.split) in
    let qs = c.do_all.new.publishers in
    let vs = c.do_all.new.workers in
    let long = length-append qs vs in
    let front = c.do_all.auto.publishers in
    let back = c.do_all.auto.workers in
    let front_long = c.split_at_mut-front.ensures.front_len in
    let back_long = c.split_at_mut-front.ensures.back_len in
    let slice_long = c.as_mut_slice.ensures.len in
    let fed = with_items_is c.split_jobs.new.jobs (qs ++ vs) (omega (arith, long, front, back, front_long, back_long, slice_long)) in
    subst (All (λ (job : Job). IsLater c.args.store.now job.seat)) (sym fed) (later_backs g.S.Source.tells g.S.Source.left g.S.Source.faults c.args.terms.now.most jobs (qs ++ vs) ps ws qs vs c.args.feeds.now c.do_all.new.feeds c.args.sources.now c.do_all.new.sources jobs_are refl c.do_all.ensures.publishers c.do_all.ensures.workers c.args.store.now later)

pub ended-requires : goal.ended-requires
ended-requires g c =
    let jobs = c.split_jobs.new.jobs.items in
    let ps = c.split_at_mut-front.result.0.now in
    let ws = c.split_at_mut-front.result.1.now in
    let jobs_are : jobs ≡ ps ++ ws = sym c.as_mut_slice.ensures.value ∙ c.split_at_mut-front.ensures.value in
    let qs = c.do_all.new.publishers in
    let vs = c.do_all.new.workers in
    let long = length-append qs vs in
    let front = c.do_all.auto.publishers in
    let back = c.do_all.auto.workers in
    let front_long = c.split_at_mut-front.ensures.front_len in
    let back_long = c.split_at_mut-front.ensures.back_len in
    let slice_long = c.as_mut_slice.ensures.len in
    let fed = with_items_is c.split_jobs.new.jobs (qs ++ vs) (omega (arith, long, front, back, front_long, back_long, slice_long)) in
    let joins = subst (λ (l : List Job). AreJoined c.args.store.now c.split_jobs.new.first c.join_jobs.new.first (map (λ (job : Job). job.seat) l)) fed c.join_jobs.ensures.joined in
    let refused = c.join_jobs.ensures.refused ∙ ap (first_refused 0) fed in
    let all = c.in-Ok-split_jobs.ensures.all in
    let whole = ap (λ (l : List Job). length l) c.as_mut_slice.ensures.value in
    let least = c.requires.workers in
    let some : 0 < length ws = omega (arith, all, whole, least, back_long) in
    let backs = are_back c.args.store.now c.args.first.now c.split_jobs.new.first c.join_jobs.new.first (map (λ (job : Job). job.seat) jobs) (map (λ (job : Job). job.seat) (qs ++ vs)) c.requires.seat c.split_jobs.ensures.split joins in
    none_intruded g.S.Source.tells g.S.Source.left g.S.Source.faults c.args.terms.now.most jobs (qs ++ vs) ps ws qs vs c.args.feeds.now c.do_all.new.feeds c.args.sources.now c.do_all.new.sources jobs_are refl c.do_all.ensures.publishers c.do_all.ensures.workers c.args.store.now (seen c.args.first.now) (seen c.join_jobs.new.first) (split_off c.args.first.now) (joined c.args.first.now) backs some c.requires.names c.join_jobs.result refused

pub join_jobs-refused-requires-clause-seat : goal.join_jobs-refused-requires-clause-seat
join_jobs-refused-requires-clause-seat g c =
    c.split_jobs.ensures.split.stays

pub join_jobs-refused-requires-clause-jobs : goal.join_jobs-refused-requires-clause-jobs
join_jobs-refused-requires-clause-jobs g c =
    let jobs = c.split_jobs.new.jobs.items in
    all_unmapped (IsLater c.args.store.now) (λ (job : Job). job.seat) jobs (later_seats c.args.store.now c.args.first.now c.split_jobs.new.first (map (λ (job : Job). job.seat) jobs) c.split_jobs.ensures.split)

pub returns-in-Ok-split_jobs-clause-seat : goal.returns-in-Ok-split_jobs-clause-seat
returns-in-Ok-split_jobs-clause-seat g c =
    let jobs = c.split_jobs.new.jobs.items in
    let ps = c.split_at_mut-front.result.0.now in
    let ws = c.split_at_mut-front.result.1.now in
    let jobs_are : jobs ≡ ps ++ ws = sym c.as_mut_slice.ensures.value ∙ c.split_at_mut-front.ensures.value in
    let qs = c.do_all.new.publishers in
    let vs = c.do_all.new.workers in
    let long = length-append qs vs in
    let front = c.do_all.auto.publishers in
    let back = c.do_all.auto.workers in
    let front_long = c.split_at_mut-front.ensures.front_len in
    let back_long = c.split_at_mut-front.ensures.back_len in
    let slice_long = c.as_mut_slice.ensures.len in
    let fed = with_items_is c.split_jobs.new.jobs (qs ++ vs) (omega (arith, long, front, back, front_long, back_long, slice_long)) in
    let joins = subst (λ (l : List Job). AreJoined c.args.store.now c.split_jobs.new.first c.join_jobs.new.first (map (λ (job : Job). job.seat) l)) fed c.join_jobs.ensures.joined in
    let refused = c.join_jobs.ensures.refused ∙ ap (first_refused 0) fed in
    let same = map_twice number (λ (job : Job). job.seat) (qs ++ vs) ∙ same_numbers g.S.Source.tells g.S.Source.left g.S.Source.faults c.args.terms.now.most jobs (qs ++ vs) ps ws qs vs c.args.feeds.now c.do_all.new.feeds c.args.sources.now c.do_all.new.sources jobs_are refl c.do_all.ensures.publishers c.do_all.ensures.workers ∙ sym (map_twice number (λ (job : Job). job.seat) jobs) in
    alone_again c.args.store.now c.args.first.now c.split_jobs.new.first c.join_jobs.new.first (map (λ (job : Job). job.seat) jobs) (map (λ (job : Job). job.seat) (qs ++ vs)) c.requires.seat c.split_jobs.ensures.split joins same

pub returns-in-Ok-split_jobs-clause-done : goal.returns-in-Ok-split_jobs-clause-done
returns-in-Ok-split_jobs-clause-done g c =
    let jobs = c.split_jobs.new.jobs.items in
    let ps = c.split_at_mut-front.result.0.now in
    let ws = c.split_at_mut-front.result.1.now in
    let jobs_are : jobs ≡ ps ++ ws = sym c.as_mut_slice.ensures.value ∙ c.split_at_mut-front.ensures.value in
    let qs = c.do_all.new.publishers in
    let vs = c.do_all.new.workers in
    let long = length-append qs vs in
    let front = c.do_all.auto.publishers in
    let back = c.do_all.auto.workers in
    let front_long = c.split_at_mut-front.ensures.front_len in
    let back_long = c.split_at_mut-front.ensures.back_len in
    let slice_long = c.as_mut_slice.ensures.len in
    let fed = with_items_is c.split_jobs.new.jobs (qs ++ vs) (omega (arith, long, front, back, front_long, back_long, slice_long)) in
    let joins = subst (λ (l : List Job). AreJoined c.args.store.now c.split_jobs.new.first c.join_jobs.new.first (map (λ (job : Job). job.seat) l)) fed c.join_jobs.ensures.joined in
    let refused = c.join_jobs.ensures.refused ∙ ap (first_refused 0) fed in
    let all = c.in-Ok-split_jobs.ensures.all in
    let whole = ap (λ (l : List Job). length l) c.as_mut_slice.ensures.value in
    let least = c.requires.workers in
    let some : 0 < length ws = omega (arith, all, whole, least, back_long) in
    let backs = are_back c.args.store.now c.args.first.now c.split_jobs.new.first c.join_jobs.new.first (map (λ (job : Job). job.seat) jobs) (map (λ (job : Job). job.seat) (qs ++ vs)) c.requires.seat c.split_jobs.ensures.split joins in
    ended_ok c.join_jobs.result (first_refused 0 (qs ++ vs)) c.ended.result c.ended.ensures refused (λ none. step_done g.S.Source.tells g.S.Source.left g.S.Source.faults c.args.terms.now.most jobs (qs ++ vs) ps ws qs vs c.args.feeds.now c.do_all.new.feeds c.args.sources.now c.do_all.new.sources jobs_are refl c.do_all.ensures.publishers c.do_all.ensures.workers c.args.store.now (seen c.args.first.now) (seen c.join_jobs.new.first) (split_off c.args.first.now) (joined c.args.first.now) backs some c.requires.names none)

pub returns-in-Ok-split_jobs-clause-going : goal.returns-in-Ok-split_jobs-clause-going
returns-in-Ok-split_jobs-clause-going g c =
    let jobs = c.split_jobs.new.jobs.items in
    let ps = c.split_at_mut-front.result.0.now in
    let ws = c.split_at_mut-front.result.1.now in
    let jobs_are : jobs ≡ ps ++ ws = sym c.as_mut_slice.ensures.value ∙ c.split_at_mut-front.ensures.value in
    let qs = c.do_all.new.publishers in
    let vs = c.do_all.new.workers in
    let long = length-append qs vs in
    let front = c.do_all.auto.publishers in
    let back = c.do_all.auto.workers in
    let front_long = c.split_at_mut-front.ensures.front_len in
    let back_long = c.split_at_mut-front.ensures.back_len in
    let slice_long = c.as_mut_slice.ensures.len in
    let fed = with_items_is c.split_jobs.new.jobs (qs ++ vs) (omega (arith, long, front, back, front_long, back_long, slice_long)) in
    let joins = subst (λ (l : List Job). AreJoined c.args.store.now c.split_jobs.new.first c.join_jobs.new.first (map (λ (job : Job). job.seat) l)) fed c.join_jobs.ensures.joined in
    let refused = c.join_jobs.ensures.refused ∙ ap (first_refused 0) fed in
    let all = c.in-Ok-split_jobs.ensures.all in
    let whole = ap (λ (l : List Job). length l) c.as_mut_slice.ensures.value in
    let least = c.requires.workers in
    let some : 0 < length ws = omega (arith, all, whole, least, back_long) in
    let backs = are_back c.args.store.now c.args.first.now c.split_jobs.new.first c.join_jobs.new.first (map (λ (job : Job). job.seat) jobs) (map (λ (job : Job). job.seat) (qs ++ vs)) c.requires.seat c.split_jobs.ensures.split joins in
    ended_ok c.join_jobs.result (first_refused 0 (qs ++ vs)) c.ended.result c.ended.ensures refused (λ none. going_done g.S.Source.tells g.S.Source.left g.S.Source.faults c.args.terms.now.most jobs (qs ++ vs) ps ws qs vs c.args.feeds.now c.do_all.new.feeds c.args.sources.now c.do_all.new.sources jobs_are refl c.do_all.ensures.publishers c.do_all.ensures.workers c.args.store.now (seen c.args.first.now) (seen c.join_jobs.new.first) (split_off c.args.first.now) (joined c.args.first.now) backs some c.requires.names none c.requires.going)

pub returns-in-Ok-split_jobs-clause-fault : goal.returns-in-Ok-split_jobs-clause-fault
returns-in-Ok-split_jobs-clause-fault g c place is =
    let jobs = c.split_jobs.new.jobs.items in
    let ps = c.split_at_mut-front.result.0.now in
    let ws = c.split_at_mut-front.result.1.now in
    let jobs_are : jobs ≡ ps ++ ws = sym c.as_mut_slice.ensures.value ∙ c.split_at_mut-front.ensures.value in
    let qs = c.do_all.new.publishers in
    let vs = c.do_all.new.workers in
    let long = length-append qs vs in
    let front = c.do_all.auto.publishers in
    let back = c.do_all.auto.workers in
    let front_long = c.split_at_mut-front.ensures.front_len in
    let back_long = c.split_at_mut-front.ensures.back_len in
    let slice_long = c.as_mut_slice.ensures.len in
    let fed = with_items_is c.split_jobs.new.jobs (qs ++ vs) (omega (arith, long, front, back, front_long, back_long, slice_long)) in
    let joins = subst (λ (l : List Job). AreJoined c.args.store.now c.split_jobs.new.first c.join_jobs.new.first (map (λ (job : Job). job.seat) l)) fed c.join_jobs.ensures.joined in
    let refused = c.join_jobs.ensures.refused ∙ ap (first_refused 0) fed in
    fails_first g.S.Source.tells g.S.Source.left g.S.Source.faults c.args.terms.now.most jobs (qs ++ vs) ps ws qs vs c.args.feeds.now c.do_all.new.feeds c.args.sources.now c.do_all.new.sources jobs_are refl c.do_all.ensures.publishers c.do_all.ensures.workers place (ended_fault c.join_jobs.result (first_refused 0 (qs ++ vs)) c.ended.result place c.ended.ensures refused is)

pub returns-in-Ok-split_jobs-clause-spent : goal.returns-in-Ok-split_jobs-clause-spent
returns-in-Ok-split_jobs-clause-spent g c is =
    let jobs = c.split_jobs.new.jobs.items in
    let ps = c.split_at_mut-front.result.0.now in
    let ws = c.split_at_mut-front.result.1.now in
    let jobs_are : jobs ≡ ps ++ ws = sym c.as_mut_slice.ensures.value ∙ c.split_at_mut-front.ensures.value in
    let qs = c.do_all.new.publishers in
    let vs = c.do_all.new.workers in
    let long = length-append qs vs in
    let front = c.do_all.auto.publishers in
    let back = c.do_all.auto.workers in
    let front_long = c.split_at_mut-front.ensures.front_len in
    let back_long = c.split_at_mut-front.ensures.back_len in
    let slice_long = c.as_mut_slice.ensures.len in
    let fed = with_items_is c.split_jobs.new.jobs (qs ++ vs) (omega (arith, long, front, back, front_long, back_long, slice_long)) in
    let joins = subst (λ (l : List Job). AreJoined c.args.store.now c.split_jobs.new.first c.join_jobs.new.first (map (λ (job : Job). job.seat) l)) fed c.join_jobs.ensures.joined in
    let refused = c.join_jobs.ensures.refused ∙ ap (first_refused 0) fed in
    let all = c.in-Ok-split_jobs.ensures.all in
    let whole = ap (λ (l : List Job). length l) c.as_mut_slice.ensures.value in
    let least = c.requires.workers in
    let some : 0 < length ws = omega (arith, all, whole, least, back_long) in
    let backs = are_back c.args.store.now c.args.first.now c.split_jobs.new.first c.join_jobs.new.first (map (λ (job : Job). job.seat) jobs) (map (λ (job : Job). job.seat) (qs ++ vs)) c.requires.seat c.split_jobs.ensures.split joins in
    let at = ended_spent c.join_jobs.result (first_refused 0 (qs ++ vs)) c.ended.result c.ended.ensures refused is in
    spent_first g.S.Source.tells g.S.Source.left g.S.Source.faults c.args.terms.now.most jobs (qs ++ vs) ps ws qs vs c.args.feeds.now c.do_all.new.feeds c.args.sources.now c.do_all.new.sources jobs_are refl c.do_all.ensures.publishers c.do_all.ensures.workers c.args.store.now (seen c.args.first.now) (seen c.join_jobs.new.first) (split_off c.args.first.now) (joined c.args.first.now) backs some c.requires.names at.0 at.1

pub returns-in-Err-clause-seat : goal.returns-in-Err-clause-seat
returns-in-Err-clause-seat g c =
    let jobs = c.split_jobs.new.jobs.items in
    let seats = map (λ (job : Job). job.seat) jobs in
    alone_again c.args.store.now c.args.first.now c.split_jobs.new.first c.join_jobs-refused.new.first seats seats c.requires.seat c.split_jobs.ensures.split c.join_jobs-refused.ensures.joined refl

pub returns-in-Ok-split_jobs-clause-counts : goal.returns-in-Ok-split_jobs-clause-counts
returns-in-Ok-split_jobs-clause-counts g c =
    let jobs = c.split_jobs.new.jobs.items in
    let ps = c.split_at_mut-front.result.0.now in
    let ws = c.split_at_mut-front.result.1.now in
    let jobs_are : jobs ≡ ps ++ ws = sym c.as_mut_slice.ensures.value ∙ c.split_at_mut-front.ensures.value in
    let qs = c.do_all.new.publishers in
    let vs = c.do_all.new.workers in
    counts_all g.S.Source.tells g.S.Source.left g.S.Source.faults c.args.terms.now.most jobs (qs ++ vs) ps ws qs vs c.args.feeds.now c.do_all.new.feeds c.args.sources.now c.do_all.new.sources jobs_are refl c.do_all.ensures.publishers c.do_all.ensures.workers

pub returns-in-Err-clause-counts : goal.returns-in-Err-clause-counts
returns-in-Err-clause-counts g c = all_count g.S.Source.tells g.S.Source.left c.args.feeds.now c.args.sources.now c.requires.paired

pub returns-in_default-clause-counts : goal.returns-in_default-clause-counts
returns-in_default-clause-counts g c = all_count g.S.Source.tells g.S.Source.left c.args.feeds.now c.args.sources.now c.requires.paired
