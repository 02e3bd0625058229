-- The schedule of a configuration on a host.
use Rattle.std.specs.Prelude.{◌≡◌, Bool, true, false, List}
use Rattle.osq_config.specs.declared.config.Config.{Config}
use Rattle.pack_rules.specs.declared.host.Host.{Host}
use Rattle.pack_rules.specs.declared.schedule.Form.{Form}
use Rattle.pack_rules.specs.declared.schedule.Form.TheVariants.{Event, Batch}
use Rattle.pack_rules.specs.declared.schedule.Schedule.{Schedule}
use Rattle.pack_rules.specs.ByName.{IsByName}
use Rattle.pack_rules.specs.Offers.{offered}

abbrev pub form_of : Bool → Form
form_of true = Batch
form_of false = Event

-- the offered queries by name, with the configuration's numbers and form
pub record IsScheduleOf (config : Config) (host : Host) (found : List Bool) (schedule : Schedule) : Type 0 where
  pub queries : IsByName (offered config host found) schedule.queries
  pub expiry : schedule.events_expiry ≡ config.events_expiry
  pub max : schedule.events_max ≡ config.events_max
  pub form : schedule.form ≡ form_of config.is_batch_form
