use Rattle.std.proofs.Common.{◌≡◌, ◌≤◌, length, drop}
use Rattle.sql_nested.specs.Outlook.{behind, looks}
use Rattle.sql_nested.proofs.outlook.looks.Given as goal

abbrev pub invariant-loop-at : goal.invariant-loop-at
invariant-loop-at l = record {
  within : l.at ≤ length l.tokens;
  looked : l.looks ≡ looks l.text (drop l.at l.tokens);
  known : l.outlook ≡ behind l.text (drop l.at l.tokens);
}

abbrev pub decreases-loop-at : goal.decreases-loop-at
decreases-loop-at l = l.at
