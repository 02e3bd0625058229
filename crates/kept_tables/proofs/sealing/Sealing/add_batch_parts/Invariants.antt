use Rattle.std.proofs.Common.{◌≡◌, fold}
use Rattle.kept_tables.specs.Sealing.{with_batch_part}
use Rattle.kept_tables.proofs.sealing.Sealing.add_batch_parts.Given as goal

abbrev pub invariant-loop-text : goal.invariant-loop-text
invariant-loop-text l = l.self ≡ fold (with_batch_part l.batch) l.initial.self l.yielded
