use Rattle.std.proofs.Common.{◌≡◌, length, reverse}
use denote.Text.{Utf8}
use denote.Shadow.{shadow}
use Rattle.sql_scalar.specs.Texts.{behind_spaces}
use Rattle.sql_scalar.proofs.texts.before_spaces.Given as goal

abbrev pub invariant-loop-front : goal.invariant-loop-front
invariant-loop-front l = record {
  text : shadow (Utf8 l.rest);
  kept : reverse (behind_spaces (reverse l.fn.text)) ≡ reverse (behind_spaces (reverse l.rest));
}

abbrev pub decreases-loop-front : goal.decreases-loop-front
decreases-loop-front l = length l.rest
