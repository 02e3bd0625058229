use Rattle.std.proofs.Common.{◌≡◌, map, take}
use Rattle.custom_tables.specs.Asked.{asked_in}
use Rattle.custom_tables.proofs.asked.asked_of.Given as goal

abbrev pub invariant-loop-call : goal.invariant-loop-call
invariant-loop-call l = l.asked ≡ map (asked_in l.text) (take l.call-index l.calls)
