use Rattle.std.proofs.Common.{◌≡◌, ◌-◌, drop}
use Rattle.pack_rules.specs.ByName.{names_rise}
use Rattle.state_cases.proofs.ready.do_names_rise.Given as goal

abbrev pub invariant-loop-at : goal.invariant-loop-at
invariant-loop-at l = names_rise (drop (l.at - 1) l.queries) ≡ names_rise l.queries
