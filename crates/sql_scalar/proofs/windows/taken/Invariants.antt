use Rattle.std.proofs.Common.{◌≡◌, ◌+◌, ◌≤◌, ◌++◌, length}
use denote.Text.{Utf8}
use denote.Shadow.{shadow}
use Rattle.std.specs.Str.{chars, encode_utf8_all}
use Rattle.std.specs.String.{string_bytes}
use Rattle.sql_scalar.specs.Windows.{inside, kept}
use Rattle.sql_scalar.proofs.windows.taken.Given as goal

abbrev pub invariant-loop-first : goal.invariant-loop-first
invariant-loop-first l = record {
  text : shadow (Utf8 l.rest);
  so_far :
      encode_utf8_all (kept (inside l.low l.high) 1 (chars l.fn.text))
      ≡ string_bytes l.part ++ encode_utf8_all (kept (inside l.low l.high) l.position (chars l.rest));
  small : l.position + length l.rest ≤ length l.fn.text + 1;
}

abbrev pub decreases-loop-first : goal.decreases-loop-first
decreases-loop-first l = length l.rest
