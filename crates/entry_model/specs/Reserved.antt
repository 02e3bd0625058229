-- Runs with room for more.
use Rattle.std.specs.Prelude.{ℕ, ◌-◌, Bool, if◌then◌else◌, List, Option}
use Rattle.std.specs.List.{list_any, position_from}
use Rattle.pack_rules.specs.declared.schedule.QueryKey.{QueryKey}
use Rattle.entry_model.specs.declared.restored.Run.{Run}
use Rattle.pack_rules.specs.Keys.{same_key}
use Rattle.entry_model.specs.Fits.{IsDistinct}
use Rattle.entry_model.specs.Runs.{with_batch}

-- the runs, and for how many more there is room
pub record RunsAndRoom : Type 0 where
  pub runs : List Run
  pub room : ℕ

-- no query has two runs
abbrev pub HaveOwnKeys : List Run → Type 0
HaveOwnKeys runs = IsDistinct (λ (s t : Run). same_key s.key t.key) runs

-- the place of the query's run among the runs, if it has one
abbrev pub place_of : List Run → QueryKey → Option ℕ
place_of runs query = position_from (λ (run : Run). same_key run.key query) 0 runs

-- the query has a run
abbrev pub has_run : List Run → QueryKey → Bool
has_run runs query = list_any (λ (run : Run). same_key run.key query) runs

-- a run was changed in its place, or a new one stands where there was room
abbrev pub noted : RunsAndRoom → QueryKey → ℕ → ℕ → ℕ → RunsAndRoom
noted before query number hi moment =
    record {
      runs = with_batch before.runs query number hi moment;
      room = if has_run before.runs query then before.room else before.room - 1;
    }
