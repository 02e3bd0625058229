-- The parts of which values that fit are made.
use Rattle.std.specs.Prelude.{◌≤◌, ◌^◌, List, All}
use Rattle.osq_value.specs.declared.moment.TheConstants.{LAST_MOMENT}
use Rattle.entry_model.specs.declared.restored.Restored.{Restored}
use Rattle.entry_model.specs.declared.restored.SetTable.{SetTable}
use Rattle.entry_model.specs.Fits.{IsRisingFrom, LiveFits, RunFits, TableFits}
use Rattle.entry_model.specs.Reserved.{HaveOwnKeys}
use Rattle.entry_summary.specs.Distinct.{HaveOwnNumbers, HaveOwnTables}

pub record AreEvents (r : Restored) : Type 0 where
  pub floors : All (λ floor. floor ≤ r.last) r.floors
  pub rising : IsRisingFrom 0 r.live
  pub each : All (LiveFits r) r.live

pub record AreTables (tables : List SetTable) : Type 0 where
  pub each : All TableFits tables
  pub one_table : HaveOwnTables tables

pub record AreRuns (r : Restored) : Type 0 where
  pub each : All (RunFits r) r.runs
  pub one_key : HaveOwnKeys r.runs
  pub one_number : HaveOwnNumbers r.runs

pub record AreTotals (r : Restored) : Type 0 where
  pub acked : r.acked ≤ r.batches
  pub moment : r.moment ≤ LAST_MOMENT
  pub last : r.last ≤ 2 ^ 62
  pub batches : r.batches ≤ 2 ^ 62
