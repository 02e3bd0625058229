use Rattle.std.proofs.Common.{◌≡◌, [], take, drop}
use Rattle.pack_rules.specs.Parts.{parts_behind}
use Rattle.pack_rules.proofs.parts.split_part.Given as goal

abbrev pub invariant-loop-at : goal.invariant-loop-at
invariant-loop-at l = parts_behind l.separator [] l.text ≡ parts_behind l.separator (take l.at l.text) (drop l.at l.text)
