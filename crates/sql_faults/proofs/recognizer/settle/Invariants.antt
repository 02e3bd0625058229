use Rattle.std.proofs.Common.{◌≡◌, vec_len}
use Rattle.sql_faults.specs.Stack.{expects}
use Rattle.sql_faults.specs.Reading.{settled}
use Rattle.sql_faults.proofs.recognizer.settle.Given as goal

abbrev pub invariant-loop-part : goal.invariant-loop-part
invariant-loop-part l = settled (expects l.fn.parts.items) l.token l.is_all_of ≡ settled (expects l.parts.items) l.token l.is_all_of

abbrev pub decreases-loop-part : goal.decreases-loop-part
decreases-loop-part l = vec_len l.parts
