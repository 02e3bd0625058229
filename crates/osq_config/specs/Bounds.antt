-- Between which numbers a configuration's numbers lie.
use Rattle.std.specs.Prelude.{ℕ, ◌≤◌, All}
use Rattle.osq_config.specs.declared.config.Config.{Config}
use Rattle.osq_config.specs.declared.config.Pack.{Pack}
use Rattle.osq_config.specs.declared.config.QueryEntry.{QueryEntry}
use Rattle.osq_config.specs.Counts.{query_count}

-- a number from the first to the second
abbrev pub IsFromTo : ℕ → ℕ → ℕ → Type 0
IsFromTo least most number = (least ≤ number) × (number ≤ most)

pub record IsBoundedEntry (entry : QueryEntry) : Type 0 where
  pub interval : IsFromTo 1 604800 entry.interval
  pub shard : IsFromTo 1 100 entry.rules.shard

pub record IsBoundedPack (pack : Pack) : Type 0 where
  pub queries : All IsBoundedEntry pack.queries
  pub shard : IsFromTo 1 100 pack.rules.shard

pub record IsBounded (config : Config) : Type 0 where
  pub events_expiry : IsFromTo 1 4294967295 config.events_expiry
  pub events_max : IsFromTo 1 1000000 config.events_max
  pub schedule : All IsBoundedEntry config.schedule
  pub packs : All IsBoundedPack config.packs
  -- all queries, those of packs too
  pub count : query_count config.schedule config.packs ≤ 10000
