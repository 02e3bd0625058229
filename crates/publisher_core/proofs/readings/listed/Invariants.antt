use Rattle.std.proofs.Common.{◌≡◌, map}
use Rattle.publisher_core.specs.Readings.{reading_of}
use Rattle.publisher_core.proofs.readings.listed.Given as goal

abbrev pub invariant-loop-piece : goal.invariant-loop-piece
invariant-loop-piece l = l.readings ≡ map reading_of l.yielded
