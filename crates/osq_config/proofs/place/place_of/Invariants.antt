use Rattle.std.proofs.Common.{◌≡◌, bytes_eq, drop}
use Rattle.std.specs.List.{position_from}
use Rattle.osq_config.specs.declared.config.Pack.{Pack}
use Rattle.osq_config.proofs.place.place_of.Given as goal

abbrev pub invariant-loop-at : goal.invariant-loop-at
invariant-loop-at l = position_from (λ (pack : Pack). bytes_eq pack.name l.name) 0 l.packs ≡ position_from (λ (pack : Pack). bytes_eq pack.name l.name) l.at (drop l.at l.packs)
