use Rattle.std.proofs.Common.{sym}
use Rattle.collector_ledger.proofs.Ends.{no_rest, rest_by_last}
use Rattle.collector_ledger.proofs.opened.has_rest.Goals as goal

pub returns-in-Some : goal.returns-in-Some
returns-in-Some c = sym (rest_by_last c.args.file.now c.in-Some.byte.now c.in-Some.ensures.value)

pub returns-in-None : goal.returns-in-None
returns-in-None c = sym (no_rest c.args.file.now c.in-None.ensures.value)
