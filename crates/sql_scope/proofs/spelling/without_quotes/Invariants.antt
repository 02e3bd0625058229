use Rattle.std.proofs.Common.{◌≡◌, ◌++◌, drop}
use Rattle.sql_scope.specs.Spelling.{single}
use Rattle.sql_scope.proofs.spelling.without_quotes.Given as goal

abbrev pub invariant-loop-byte : goal.invariant-loop-byte
invariant-loop-byte l = l.single.items ++ single l.quote l.is_after (drop l.byte-index l.inner) ≡ single l.quote l.initial.is_after l.inner
