use denote.Param.Send.{given_send, given_sync, sendable}
use Rattle.std.proofs.Crossing
use Rattle.thread_jobs.proofs.Sent.{of_work}
use Rattle.std.proofs.Common.{rules, ◌≡◌, ◌++◌}
use Rattle.std.specs.Thread.{IsSync, IsSend}
use Rattle.thread_jobs.specs.Forking.{ArePaired, MayPublishAll, PublishersDone}
use Rattle.thread_jobs.proofs.Forked.{may_publish_back, may_publish_front, paired_back, paired_front, publishers_halves}
use Rattle.thread_jobs.proofs.forking.+fn-publish_all-join_mut+arg2+fn-publish_all-join_mut+arg3+publish_all.Goals as goal

pub join_mut-requires-after_bounds : goal.join_mut-requires-after_bounds
join_mut-requires-after_bounds g t c κs within =
    let jobs = c.split_at_mut-front_jobs in
    let feeds = c.split_at_mut-front_feeds in
    let sources = c.split_at_mut-front_sources in
    let may_front : MayPublishAll c.args.store.now jobs.result.0.now feeds.result.0.now =
    may_publish_front c.args.store.now c.args.jobs.now jobs.result.0.now jobs.result.1.now c.args.feeds.now feeds.result.0.now feeds.result.1.now _ jobs.ensures.value feeds.ensures.value jobs.ensures.front_len feeds.ensures.front_len c.requires.may in
    let may_back : MayPublishAll c.args.store.now jobs.result.1.now feeds.result.1.now =
    may_publish_back c.args.store.now c.args.jobs.now jobs.result.0.now jobs.result.1.now c.args.feeds.now feeds.result.0.now feeds.result.1.now _ jobs.ensures.value feeds.ensures.value jobs.ensures.front_len feeds.ensures.front_len c.requires.may in
    let pairs_front : ArePaired jobs.result.0.now feeds.result.0.now sources.result.0.now =
    paired_front jobs.result.0.now feeds.result.0.now sources.result.0.now _ jobs.ensures.front_len feeds.ensures.front_len sources.ensures.front_len in
    let pairs_back : ArePaired jobs.result.1.now feeds.result.1.now sources.result.1.now =
    paired_back c.args.jobs.now jobs.result.1.now c.args.feeds.now feeds.result.1.now c.args.sources.now sources.result.1.now _ jobs.ensures.back_len feeds.ensures.back_len sources.ensures.back_len c.requires.paired in
    search rules

pub returns : goal.returns
returns g t c =
    let front : PublishersDone g.S.Source.tells g.S.Source.left g.S.Source.faults c.args.terms.now.most c.split_at_mut-front_jobs.result.0.now c.front_jobs-1.given.0 c.split_at_mut-front_feeds.result.0.now c.front_feeds-1.given.0 c.split_at_mut-front_sources.result.0.now c.front_sources-1.given.0 = search rules in
    let back : PublishersDone g.S.Source.tells g.S.Source.left g.S.Source.faults c.args.terms.now.most c.split_at_mut-front_jobs.result.1.now c.back_jobs-1.given.0 c.split_at_mut-front_feeds.result.1.now c.back_feeds-1.given.0 c.split_at_mut-front_sources.result.1.now c.back_sources-1.given.0 = search rules in
    publishers_halves g.S.Source.tells g.S.Source.left g.S.Source.faults c.args.terms.now.most _ _ _ _ _ _ _ _ _ _ _ _ _ _ _ c.split_at_mut-front_jobs.ensures.value c.split_at_mut-front_feeds.ensures.value c.split_at_mut-front_sources.ensures.value front back

pub join_mut-requires-send-F : goal.join_mut-requires-send-F
join_mut-requires-send-F g t c κs within =
    let first = c.requires-raw.1.1.1.1.1.0 in
    let others = c.requires-raw.1.1.1.1.1.1 in
    let source = c.requires.send in
    let runtime : IsSync g.row.R = search rules in
    let gate : IsSync g.row.G = search rules in
    search (of_work, given_sync, given_send, Crossing.crosses, sendable) depth 60 fits 20000
