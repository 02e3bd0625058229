-- Seals that were worked out by hand: their statements, and the rows behind them.
use Rattle.std.specs.Prelude.{◌≡◌, List, [], ◌∷◌}
use Rattle.osq_value.specs.declared.value.TheConstants.TableId.{USERS, GROUPS, FILE_EVENTS}
use Rattle.osq_value.specs.declared.value.Value.TheVariants.{Null}
use Rattle.entry_model.specs.declared.entry.Entry.{Entry}
use Rattle.entry_model.specs.declared.entry.Entry.TheVariants.{Ticked, TableSet, Expired}
use Rattle.entry_model.specs.Verdicts.{change_row, log, one_change}
use Rattle.kept_tables.specs.declared.counts.Counts.{Counts}
use Rattle.kept_tables.specs.declared.live.LivePart.{LivePart}
use Rattle.kept_tables.specs.Edits.{Kept, add_configured, add_events, all_made, expire, note_taken, seal_edits, write_counts}
use Rattle.kept_tables.specs.Keeps.{no_counts, no_rows}

-- one change of a file, behind a session's first tick
abbrev pub one_part : LivePart
one_part = record { table = FILE_EVENTS; moment = 1000; numbers = 1 ∷ []; rows = change_row ∷ [] }

abbrev pub one_counts : Counts
one_counts = record { position = 4; sessions = 1; moment = 1000; last = 1; floors = 0 ∷ 0 ∷ 0 ∷ []; batches = 0; acked = 0; parts = 0 }

abbrev pub one_kept : Kept
one_kept = record { counts = one_counts; live = one_part ∷ []; taken = record { source = log; offset = 92 } ∷ []; set = []; runs = [] }

-- the change is gone
abbrev pub gone : List Entry
gone = Ticked 1031 ∷ Expired FILE_EVENTS 1 1031 ∷ []

abbrev pub gone_counts : Counts
gone_counts = record { position = 6; sessions = 1; moment = 1031; last = 1; floors = 0 ∷ 0 ∷ 1 ∷ []; batches = 0; acked = 0; parts = 0 }

-- a table is set to a row, another to none, and the first to none
abbrev pub three_tables : List Entry
three_tables = TableSet log USERS ((Null ∷ []) ∷ []) 10 ∷ TableSet log GROUPS [] 20 ∷ TableSet log USERS [] 30 ∷ []

pub record Worked : Type 0 where
  pub added : seal_edits no_counts one_change ≡ add_configured 2 ∷ note_taken log 92 ∷ add_events one_part ∷ write_counts one_counts ∷ []
  pub kept : all_made no_rows (seal_edits no_counts one_change) ≡ one_kept
  pub expired : seal_edits one_counts gone ≡ expire 2 1 ∷ write_counts gone_counts ∷ []
  pub left : all_made one_kept (seal_edits one_counts gone) ≡ record one_kept { counts = gone_counts; live = [] }
  pub set : (all_made no_rows (seal_edits no_counts three_tables)).set ≡ record { table = GROUPS; rows = [] } ∷ record { table = USERS; rows = [] } ∷ []
