use Rattle.std.proofs.Common.{◌≡◌, true, map, take}
use Rattle.osq_config.specs.declared.config.Pack.{Pack}
use Rattle.osq_program.proofs.check.all_found.Given as goal

abbrev pub invariant-loop-pack : goal.invariant-loop-pack
invariant-loop-pack l = l.found.items ≡ map (λ (pack : Pack). true) (take l._pack-index l.packs)
