use Rattle.std.proofs.Common.{◌≡◌, ℕ, IfSome, map, take}
use Rattle.sql_query.specs.View.{expr_of}
use Rattle.sql_planner.specs.Reading.{AreHalves}
use Rattle.sql_planner.proofs.reading.reading_of.Given as goal

abbrev pub invariant-loop-part : goal.invariant-loop-part
invariant-loop-part l = (before : ℕ) → IfSome l.width (λ known. known ≡ before) → AreHalves l.source.table.0 before (map expr_of (take l.part-index l.source.on.parts)) l.tests (map expr_of l.on)
