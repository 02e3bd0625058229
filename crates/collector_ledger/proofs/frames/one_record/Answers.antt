use Rattle.collector_ledger.proofs.Recorded.{recorded_once}
use Rattle.collector_ledger.proofs.frames.one_record.Goals as goal

pub returns : goal.returns
returns c = recorded_once
