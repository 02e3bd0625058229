use Rattle.std.proofs.Common.{◌≡◌, ◌++◌, drop}
use Rattle.schedule_notes.specs.Listed.{all_pack_judged}
use Rattle.schedule_notes.proofs.entries.push_packs.Given as goal

abbrev pub invariant-loop-at : goal.invariant-loop-at
invariant-loop-at l = l.judged ++ all_pack_judged l.host (drop l.at l.packs) (drop l.at l.found) ≡ l.fn.judged ++ all_pack_judged l.host l.packs l.found
