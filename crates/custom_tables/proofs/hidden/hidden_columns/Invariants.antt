use Rattle.std.proofs.Common.{◌≡◌, ◌+◌, ◌++◌, drop}
use Rattle.custom_tables.specs.Hidden.{hidden_from}
use Rattle.custom_tables.proofs.hidden.hidden_columns.Given as goal

abbrev pub invariant-loop-call : goal.invariant-loop-call
invariant-loop-call l = record {
  made : l.made ++ hidden_from l.columns l.number (drop l.call-index l.asked) ≡ hidden_from l.columns 1 l.asked;
  number : l.number ≡ l.call-index + 1;
}
