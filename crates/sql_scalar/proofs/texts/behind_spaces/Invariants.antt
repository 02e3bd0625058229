use Rattle.std.proofs.Common.{◌≡◌, length}
use denote.Text.{Utf8}
use denote.Shadow.{shadow}
use Rattle.sql_scalar.specs.Texts.{behind_spaces}
use Rattle.sql_scalar.proofs.texts.behind_spaces.Given as goal

abbrev pub invariant-loop-tail : goal.invariant-loop-tail
invariant-loop-tail l = record {
  text : shadow (Utf8 l.rest);
  kept : behind_spaces l.fn.text ≡ behind_spaces l.rest;
}

abbrev pub decreases-loop-tail : goal.decreases-loop-tail
decreases-loop-tail l = length l.rest
