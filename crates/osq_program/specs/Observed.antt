-- What the objects of the outside tell of one run.
use Rattle.std.specs.Prelude.{ℕ, ◌-◌, List, Option}
use Rattle.entry_model.specs.declared.entry.Entry.{Entry}
use Rattle.forward_rounds.specs.Forwarding.{View}

-- Of each object whether it tells what it holds, what that was before the run and is behind it, and whether it failed in between.
pub record Observed : Type 1 where
  pub files_tell : Type 0
  pub file : List ℕ → Option (List ℕ)  -- the bytes of each file
  pub files_failed : Type 0
  pub keeper_tells : Type 0
  pub kept_before : List Entry
  pub kept_after : List Entry
  pub keeper_failed : Type 0
  pub reads : ℕ → Type 0  -- the clock was read once, and gave this moment
  pub has_read : List ℕ → Type 0  -- the clock was read for each of these readings, one after another
  pub source_tells : Type 0
  pub all_bytes : List (List ℕ)  -- what each source had to give
  pub rest_bytes : List (List ℕ)  -- and what is left of it
  pub failed_at : ℕ → Type 0  -- the source at this place failed
  pub sink_tells : Type 0
  pub results_before : List ℕ
  pub results_after : List ℕ
  pub results_failed : Type 0
  pub status_before : List ℕ
  pub status_after : List ℕ
  pub status_failed : Type 0
  pub ledger_before : List ℕ
  pub ledger_after : List ℕ
  pub ledger_failed : Type 0
  pub link_tells : Type 0
  pub link_before : View  -- the frames that were sent, the answers that wait, and how often it failed
  pub link_after : View

-- how often the link failed in the run
abbrev pub link_faults : Observed → ℕ
link_faults seen = seen.link_after.faults - seen.link_before.faults
