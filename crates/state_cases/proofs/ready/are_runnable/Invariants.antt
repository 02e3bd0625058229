use Rattle.std.proofs.Common.{All, take}
use Rattle.pack_rules.specs.Sound.{IsRunnable}
use Rattle.state_cases.proofs.ready.are_runnable.Given as goal

abbrev pub invariant-loop-query : goal.invariant-loop-query
invariant-loop-query l = All IsRunnable (take l.query-index l.queries)
