-- What a configuration offers a host.
use Rattle.std.specs.Prelude.{ℕ, Bool, true, false, if◌then◌else◌, List, [], ◌∷◌, ◌++◌, flat_map, Option, Some, None, codes}
use Rattle.osq_config.specs.declared.config.Config.{Config}
use Rattle.osq_config.specs.declared.config.Pack.{Pack}
use Rattle.osq_config.specs.declared.config.QueryEntry.{QueryEntry}
use Rattle.sql_query.specs.Resolved.{QueryTree}
use Rattle.sql_query.specs.Answers.{is_evented_query}
use Rattle.sql_texts.specs.Texts.{query_in}
use Rattle.pack_rules.specs.declared.host.Host.{Host}
use Rattle.pack_rules.specs.declared.schedule.Mode.{Mode}
use Rattle.pack_rules.specs.declared.schedule.Mode.TheVariants.{Evented, Snapshot}
use Rattle.pack_rules.specs.declared.schedule.Scheduled.{Scheduled}
use Rattle.pack_rules.specs.Hosts.{rules_hold}

-- a query that names an evented table reads its slice, unless it is marked as a snapshot
abbrev pub mode_of : Bool → Bool → Mode
mode_of true is_evented = Snapshot
mode_of false true = Evented
mode_of false false = Snapshot

-- the mode of an accepted text
abbrev pub mode_in : Bool → Option QueryTree → Option Mode
mode_in is_snapshot None = None
mode_in is_snapshot (Some query) = Some (mode_of is_snapshot (is_evented_query query))

-- the mode of an entry whose rules hold and whose text is accepted
abbrev pub taken_mode : Host → QueryEntry → Option Mode
taken_mode host entry = if rules_hold host entry.rules then mode_in entry.is_snapshot (query_in entry.text) else None

-- the query of a taken entry under a name
abbrev pub named : List ℕ → QueryEntry → Option Mode → List Scheduled
named name entry None = []
named name entry (Some mode) = record { key = record { name = name; text = entry.text; mode = mode }; interval = entry.interval } ∷ []

abbrev pub own_query : Host → QueryEntry → List Scheduled
own_query host entry = named entry.name entry (taken_mode host entry)

-- `pack_`, the pack, `_` and the key
abbrev pub name_in_pack : List ℕ → List ℕ → List ℕ
name_in_pack pack key = codes "pack_" ++ pack ++ 95 ∷ key

abbrev pub pack_query : Host → List ℕ → QueryEntry → List Scheduled
pack_query host pack entry = named (name_in_pack pack entry.name) entry (taken_mode host entry)

abbrev pub own_queries : Host → List QueryEntry → List Scheduled
own_queries host entries = flat_map (own_query host) entries

abbrev pub entries_in_pack : Host → List ℕ → List QueryEntry → List Scheduled
entries_in_pack host pack entries = flat_map (pack_query host pack) entries

-- an active pack's queries
abbrev pub pack_queries : Host → Pack → Bool → List Scheduled
pack_queries host pack false = []
pack_queries host pack true = if rules_hold host pack.rules then entries_in_pack host pack.name pack.queries else []

-- those of the packs, by whether the discovery of each found something
abbrev pub all_pack_queries : Host → List Pack → List Bool → List Scheduled
all_pack_queries host [] found = []
all_pack_queries host (pack ∷ packs) [] = []
all_pack_queries host (pack ∷ packs) (is_found ∷ found) = pack_queries host pack is_found ++ all_pack_queries host packs found

-- the schedule's queries before those of the packs
abbrev pub offered : Config → Host → List Bool → List Scheduled
offered config host found = own_queries host config.schedule ++ all_pack_queries host config.packs found
