use Rattle.std.proofs.Common.{◌≡◌, ◌+◌, ◌≤◌, ℕ, take}
use Rattle.std.specs.Prelude.{filter_map}
use Rattle.entry_model.specs.Summary.{recorded_tables, set_table}
use Rattle.kept_tables.specs.Loads.{rows_in}
use Rattle.kept_tables.proofs.tables.tables_of.Given as goal

-- so many tables were made
abbrev pub invariant-loop-table : goal.invariant-loop-table
invariant-loop-table l = (at : ℕ) × (l.table ≡ 3 + at) × (at ≤ 9) × (l.tables ≡ filter_map (λ (table : ℕ). set_table table (rows_in table l.parts)) (take at recorded_tables))
