use Rattle.std.proofs.Common.{◌≡◌, ◌<◌, ◌^◌, ◌-◌, take, drop}
use Rattle.osq_value.specs.Casts.{front_digits}
use Rattle.osq_value.specs.Spelling.{value_from}
use Rattle.pack_rules.specs.Versions.{part_number}
use Rattle.pack_rules.proofs.version.part_number.Given as goal

abbrev pub invariant-loop-at : goal.invariant-loop-at
invariant-loop-at l = record {
  below : l.number < 10 ^ l.at;
  value : value_from l.number (take (18 - l.at) (front_digits (drop l.at l.part))) ≡ part_number l.part;
}
