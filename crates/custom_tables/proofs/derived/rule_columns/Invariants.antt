use Rattle.std.proofs.Common.{◌≡◌, map, take}
use Rattle.custom_tables.specs.Derived.{text_column}
use Rattle.custom_tables.proofs.derived.rule_columns.Given as goal

abbrev pub invariant-loop-key : goal.invariant-loop-key
invariant-loop-key l = record {
  columns : l.columns ≡ map text_column (take l.key-index l.key-items);
  keys : l.key-items ≡ l.rule.keys;
}
