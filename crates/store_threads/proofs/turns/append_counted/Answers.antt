use Rattle.shared_store.specs.Words.{start_of}
use Rattle.store_threads.proofs.Owners.{own_append}
use Rattle.store_threads.proofs.turns.append_counted.Goals as goal

pub returns-clause-added : goal.returns-clause-added
returns-clause-added g c =
    (own_append (start_of c.args.store.now) c.args.seat.now c.append.new.seat c.args.source.now c.args.reading c.append.result c.append.ensures.seat.0 c.append.ensures.turn).0

pub returns-clause-refused : goal.returns-clause-refused
returns-clause-refused g c =
    (own_append (start_of c.args.store.now) c.args.seat.now c.append.new.seat c.args.source.now c.args.reading c.append.result c.append.ensures.seat.0 c.append.ensures.turn).1
