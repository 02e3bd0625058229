use Rattle.std.proofs.Common.{true, map, ap, ◌∙◌}
use Rattle.std.proofs.lemmas.List.{take_all}
use Rattle.osq_config.specs.declared.config.Pack.{Pack}
use Rattle.osq_program.proofs.check.all_found.Goals as goal

pub returns : goal.returns
returns c = c.loop-pack.invariant ∙ ap (map (λ (pack : Pack). true)) (take_all c.loop-pack._pack-index c.args.packs.now c.loop-pack-test.false)
