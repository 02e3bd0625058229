-- What `kill_run` does.
use Rattle.std.specs.Prelude.{◌≡◌, ◌⊎◌, ◌↔◌, ◌≤◌, ◌+◌, ◌-◌, ◌*◌, ℕ, Bool, if◌then◌else◌, List, [], ◌∷◌}
use Rattle.batch_keeper.specs.Calling.{Calls}
use Rattle.entry_model.specs.declared.entry.Entry.{Entry}
use Rattle.generated_changes.specs.Generated.{lines_of}
use Rattle.kept_report.specs.Counting.{numbers_in}
use Rattle.replay_rounds.specs.OneTick.{ticks_of}
use Rattle.osq_program.specs.declared.killing.KillReport.{KillReport}
use Rattle.osq_program.specs.declared.status.Status.{Status}
use Rattle.osq_program.specs.declared.status.Status.TheVariants.{Ok as Done, KeeperFault}
use Rattle.osq_program.specs.Answers.{IsDoneStatus}
use Rattle.osq_program.specs.SelfTesting.{HasGrownOver, HasRunOver, self_key, ticks_for}

-- the keeper failed, or all ticks were done
abbrev pub IsKilled : Status → Type 0
IsKilled status = (status ≡ KeeperFault) ⊎ (status ≡ Done)

-- behind so many calls, of which the one of this number is to fail
abbrev pub made_calls : ℕ → Bool → ℕ → Calls
made_calls kill whole made = record { fails = (record { call = kill }) ∷ []; made = made; is_whole = whole }

-- A session over these lines ran from one list to another, whether or not the keeper failed.
pub record IsRunOver (lines : List ℕ) (count start : ℕ) (before after : List Entry) (status : Status) : Type 0 where
  pub ended : IsKilled status
  pub grown : HasGrownOver lines count start before after
  pub done : IsDoneStatus status → HasRunOver lines count start before after

-- Two sessions ran over the generated lines and one list, of whose calls on the keeper the one of this number failed: each loads the list and seals each
-- of its ticks. Where that was a seal of the first, the ticks before it are kept, and where the seal is whole its own. The numbers are those of the list
-- behind both.
pub record IsKillRun (from count kill : ℕ) (whole : Bool) (report : KillReport) : Type 0 where
  pub between : List Entry
  pub kept : List Entry
  pub first : IsRunOver (lines_of from count) count 1000 [] between report.first
  pub second : IsRunOver (lines_of from count) count (1000 + 60 * ticks_for count) between kept report.second
  pub first_fails : (report.first ≡ KeeperFault) ↔ ((1 ≤ kill) × (kill ≤ ticks_for count + 1))
  pub second_fails : (report.second ≡ KeeperFault) ↔ ((ticks_for count + 2 ≤ kill) × (kill ≤ 2 * ticks_for count + 2))
  pub ticked : 2 ≤ kill → kill ≤ ticks_for count + 1 → ticks_of between ≡ (kill - 2) + (if whole then 1 else 0)
  pub events : report.events ≡ (numbers_in self_key kept).events
  pub batches : report.batches ≡ (numbers_in self_key kept).batches
  pub rows : report.rows ≡ (numbers_in self_key kept).rows
  pub cursor : report.cursor ≡ (numbers_in self_key kept).cursor
