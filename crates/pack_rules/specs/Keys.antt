-- What tells one query from another.
use Rattle.std.specs.Prelude.{Bool, true, false, ◌&&◌, bytes_eq}
use Rattle.pack_rules.specs.declared.schedule.Mode.{Mode}
use Rattle.pack_rules.specs.declared.schedule.Mode.TheVariants.{Evented, Snapshot}
use Rattle.pack_rules.specs.declared.schedule.QueryKey.{QueryKey}

abbrev pub same_mode : Mode → Mode → Bool
same_mode Evented Evented = true
same_mode Snapshot Snapshot = true
same_mode Evented Snapshot = false
same_mode Snapshot Evented = false

-- two keys are those of one query
abbrev pub same_key : QueryKey → QueryKey → Bool
same_key p q = bytes_eq p.name q.name && (bytes_eq p.text q.text && same_mode p.mode q.mode)
