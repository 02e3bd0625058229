use Rattle.event_store.proofs.Stages.{on_ok}
use Rattle.event_store.proofs.Copies.{goes_on}
use Rattle.event_store.proofs.loading.go_on.Goals as goal

pub returns-clause-restored : goal.returns-clause-restored
returns-clause-restored c =
    on_ok c.close.result (λ closes last live later h. goes_on last c.args.number live c.args.parts.now.items c.close.new.parts.items c.args.tail.now c.close.new.tail closes later h) c.close.ensures
