-- Schedules that a session may run.
use Rattle.std.specs.Prelude.{◌≡◌, ◌<◌, ◌≤◌, ◌^◌, Bool, true, List, length, All}
use Rattle.osq_config.specs.declared.config.Config.{Config}
use Rattle.osq_config.specs.Bounds.{IsBounded}
use Rattle.sql_texts.specs.Meaning.{is_accepted, names_evented}
use Rattle.pack_rules.specs.declared.schedule.Mode.TheVariants.{Evented}
use Rattle.pack_rules.specs.declared.schedule.Scheduled.{Scheduled}
use Rattle.pack_rules.specs.declared.schedule.Schedule.{Schedule}
use Rattle.pack_rules.specs.declared.host.Host.{Host}
use Rattle.pack_rules.specs.ByName.{names_rise}
use Rattle.pack_rules.specs.Schedules.{IsScheduleOf}

-- a query that a session may run
pub record IsRunnable (scheduled : Scheduled) : Type 0 where
  pub accepted : is_accepted scheduled.key.text ≡ true
  pub evented : scheduled.key.mode ≡ Evented → names_evented scheduled.key.text ≡ true
  pub at_least : 1 ≤ scheduled.interval
  pub at_most : scheduled.interval ≤ 604800

-- a schedule that a session may run
pub record IsSound (schedule : Schedule) : Type 0 where
  pub count : length schedule.queries ≤ 10000
  pub order : names_rise schedule.queries ≡ true
  pub runnable : All IsRunnable schedule.queries
  pub expiry_least : 1 ≤ schedule.events_expiry
  pub expiry_most : schedule.events_expiry < 2 ^ 32
  pub max_least : 1 ≤ schedule.events_max
  pub max_most : schedule.events_max ≤ 1000000

abbrev pub Soundness : Type 0
Soundness = (config : Config) (host : Host) (found : List Bool) (schedule : Schedule) → IsBounded config → IsScheduleOf config host found schedule → IsSound schedule
