use Rattle.std.proofs.Common.{◌≡◌, [], ◌∙◌}
use Rattle.turn_lock.specs.Words.{seen}
use Rattle.shared_store.specs.Words.{start_of}
use Rattle.thread_rounds.proofs.AtOnce.{no_memory, round_ends}
use Rattle.thread_rounds.proofs.at_once.round_at_once.Goals as goal

pub returns-in_default : goal.returns-in_default
returns-in_default g c =
    no_memory g.S.Source.tells g.S.Source.left g.S.Source.faults c.args.most c.args.feeds.now c.args.feeds.now c.args.sources.now c.args.sources.now c.args.state.now c.args.state.now c.requires.paired

pub returns-in_default-begin : goal.returns-in_default-begin
returns-in_default-begin g c =
    no_memory g.S.Source.tells g.S.Source.left g.S.Source.faults c.args.most c.args.feeds.now c.args.feeds.now c.args.sources.now c.args.sources.now c.args.state.now c.args.state.now c.requires.paired

pub returns-in_default-over : goal.returns-in_default-over
returns-in_default-over g c =
    no_memory g.S.Source.tells g.S.Source.left g.S.Source.faults c.args.most c.args.feeds.now c.args.feeds.now c.args.sources.now c.args.sources.now c.args.state.now c.replace-given.new.dest c.requires.paired

pub returns : goal.returns
returns g c =
    let step = c.work_step-done.ensures in
    let same : start_of c.in-Ok-over.store ≡ c.args.state.now = cc (c.in-Ok-over.ensures.store.0, c.replace-given.ensures.value) in
    let none : seen c.in-Ok-over.first ≡ [] = cc c.in-Ok-over.ensures.first.3 in
    round_ends g.S.Source.tells g.S.Source.left g.S.Source.faults c.args.most c.args.feeds.now c.work_step-done.new.feeds c.args.sources.now c.work_step-done.new.sources c.args.state.now c.close.result
    (start_of c.in-Ok-over.store) (seen c.in-Ok-over.first) (seen c.work_step-done.new.first) c.work_step-done.result c.taken.result same none c.taken.ensures c.requires.going
    (record { ok = step.done; going = step.going; counts = step.counts; fault = step.fault; spent = step.spent }) c.close.ensures
