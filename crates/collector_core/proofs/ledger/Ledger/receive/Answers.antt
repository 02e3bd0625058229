use Rattle.std.proofs.lemmas.Result.{IfErr-weaker}
use Rattle.collector_core.specs.Ledgers.{digests_of}
use Rattle.collector_core.proofs.Changed.{everywhere}
use Rattle.collector_core.proofs.ledger.Ledger.receive.Goals as goal

pub returns-clause-unchanged : goal.returns-clause-unchanged
returns-clause-unchanged c =
    IfErr-weaker c.take.result _ _
    (λ error kept. everywhere (digests_of c.args.self.now) (digests_of c.take.new.self) c.args.frame.now.host kept c.take.ensures.others)
    c.take.ensures.unchanged
