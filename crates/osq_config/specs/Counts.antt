-- How many queries a configuration may hold.
use Rattle.std.specs.Prelude.{ℕ, ◌+◌, nat_lt, List, [], length, sum_by, if◌then◌else◌, Option, Some, None}
use Rattle.std.specs.Option.{option_or}
use Rattle.serde_json.specs.Data.{Data}
use Rattle.osq_config.specs.declared.config.Pack.{Pack}
use Rattle.osq_config.specs.declared.config.QueryEntry.{QueryEntry}
use Rattle.osq_config.specs.declared.error.ConfigError.{ConfigError}
use Rattle.osq_config.specs.declared.error.ConfigError.TheVariants.{TooManyQueries}
use Rattle.osq_config.specs.Faults.{fault_of}
use Rattle.osq_config.specs.Kinds.{config_kind}
use Rattle.osq_config.specs.Values.{config_of}

-- the queries of packs
abbrev pub packed_count : List Pack → ℕ
packed_count packs = sum_by (λ (pack : Pack). length pack.queries) packs

abbrev pub query_count : List QueryEntry → List Pack → ℕ
query_count schedule packs = length schedule + packed_count packs

-- more than 10000 queries
abbrev pub fault_of_count : ℕ → Option ConfigError
fault_of_count count = if nat_lt 10000 count then Some TooManyQueries else None

-- the first fault of a configuration: the number of queries is tried last
unfoldable pub fault_of_config : Data → Option ConfigError
fault_of_config d = option_or (fault_of config_kind [] d) (fault_of_count (query_count (config_of d).schedule (config_of d).packs))
