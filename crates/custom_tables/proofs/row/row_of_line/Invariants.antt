use Rattle.std.proofs.Common.{◌≡◌, ℕ, take, map, List}
use Rattle.audit_records.specs.FieldValues.{value_text}
use Rattle.custom_tables.proofs.row.row_of_line.Given as goal

abbrev pub invariant-loop-key : goal.invariant-loop-key
invariant-loop-key l = record {
  row : l.row ≡ map (λ (key : List ℕ). value_text key l.line) (take l.key-index l.keys);
  keys : l.keys ≡ l.rule.keys;
}
