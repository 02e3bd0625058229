-- The numbers that a session leaves in a kept list.
use Rattle.std.specs.Prelude.{ℕ, List, ◌++◌, codes, length, if◌then◌else◌}
use Rattle.std.specs.List.{sum_by}
use Rattle.std.specs.Fmt.{decimal}
use Rattle.osq_value.specs.declared.value.TheConstants.TableId.{FILE_EVENTS}
use Rattle.pack_rules.specs.declared.schedule.QueryKey.{QueryKey}
use Rattle.entry_model.specs.declared.entry.Batch.{Batch}
use Rattle.entry_model.specs.declared.entry.Entry.{Entry}
use Rattle.entry_model.specs.declared.entry.Entry.TheVariants.{Committed}
use Rattle.entry_model.specs.Values.{commits, cursor_of, floor_of, last_number, same_key}
use Rattle.kept_report.specs.declared.counting.ListNumbers.{ListNumbers}

-- how many rows the batches have together
abbrev pub rows_in : List Entry → ℕ
rows_in entries = sum_by (λ (batch : Batch). length batch.rows) (commits entries)

-- where a query stands behind an entry, if it stood there before
abbrev pub cursor_after : QueryKey → ℕ → Entry → ℕ
cursor_after query cursor (Committed batch) = if same_key batch.query query then batch.hi else cursor
cursor_after query cursor _ = cursor

-- the numbers of a list, of which this query has the cursor
abbrev pub numbers_in : QueryKey → List Entry → ListNumbers
numbers_in query entries =
    record {
      events = last_number entries;
      batches = length (commits entries);
      rows = rows_in entries;
      cursor = cursor_of entries query;
      floor = floor_of entries FILE_EVENTS.0;
    }

-- `events N batches N rows N cursor N floor N`
abbrev pub numbers_line : ListNumbers → List ℕ
numbers_line numbers =
    codes "events " ++ decimal numbers.events ++ codes " batches " ++ decimal numbers.batches ++ codes " rows " ++ decimal numbers.rows
    ++ codes " cursor " ++ decimal numbers.cursor ++ codes " floor " ++ decimal numbers.floor ++ codes "\n"
