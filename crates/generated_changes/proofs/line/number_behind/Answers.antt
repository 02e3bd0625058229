use Rattle.std.proofs.Common.{◌*◌, ◌^◌}
use Rattle.std.proofs.Math.Nat.{mod-add-mod}
use Rattle.generated_changes.specs.Generated.{number_behind}
use Rattle.generated_changes.proofs.line.number_behind.Goals as goal

pub returns : goal.returns
unfolding number_behind
returns c = mod-add-mod (c.args.number * 6364136223846793005) (2 ^ 64) 1442695040888963407
