use Rattle.std.proofs.Common.{◌≡◌, ◌++◌, take}
use Rattle.control_escapes.specs.Escapes.{escaped_controls}
use Rattle.control_escapes.proofs.push_text.Given as goal

abbrev pub invariant-loop-byte : goal.invariant-loop-byte
invariant-loop-byte l = l.line ≡ l.fn.line ++ escaped_controls (take l.byte-index l.text)
