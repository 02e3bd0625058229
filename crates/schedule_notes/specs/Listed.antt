-- The entries of a configuration that a host is to run, and what becomes of each.
use Rattle.std.specs.Prelude.{◌≡◌, ℕ, Bool, true, false, ◌||◌, if◌then◌else◌, List, [], ◌∷◌, ◌++◌, flat_map, Option, Some, None}
use Rattle.std.specs.Ordering.{nat_cmp, is_lt}
use Rattle.std.specs.Cmp.Lexicographic.{slice_cmp}
use Rattle.std.specs.List.Sorted.{IsSortedBy, IsStableBy}
use Rattle.osq_config.specs.declared.config.Config.{Config}
use Rattle.osq_config.specs.declared.config.Pack.{Pack}
use Rattle.osq_config.specs.declared.config.QueryEntry.{QueryEntry}
use Rattle.sql_query.specs.Resolved.{QueryTree}
use Rattle.sql_query.specs.Answers.{is_evented_query}
use Rattle.sql_texts.specs.declared.text.TextError.{TextError}
use Rattle.sql_texts.specs.TextFaults.{text_fault}
use Rattle.sql_texts.specs.Texts.{query_in}
use Rattle.pack_rules.specs.declared.host.Host.{Host}
use Rattle.pack_rules.specs.Hosts.{rules_hold}
use Rattle.pack_rules.specs.Offers.{name_in_pack}
use Rattle.schedule_notes.specs.declared.entries.Judged.{Judged}
use Rattle.schedule_notes.specs.declared.entries.Outcome.{Outcome}
use Rattle.schedule_notes.specs.declared.entries.Outcome.TheVariants.{Refused, AsConfigured, AsSnapshot}

-- a query runs as a snapshot unasked where it names no evented table and isn't marked as a snapshot
abbrev pub outcome_by : Bool → Outcome
outcome_by true = AsConfigured
outcome_by false = AsSnapshot

-- a text with a fault is refused
abbrev pub outcome_in : Bool → Option TextError → Option QueryTree → Outcome
outcome_in is_snapshot (Some fault) query = Refused fault
outcome_in is_snapshot None None = AsConfigured
outcome_in is_snapshot None (Some query) = outcome_by (is_snapshot || is_evented_query query)

abbrev pub outcome_of : QueryEntry → Outcome
outcome_of entry = outcome_in entry.is_snapshot (text_fault entry.text) (query_in entry.text)

-- an entry whose rules hold, under a name
abbrev pub judged_as : Host → List ℕ → QueryEntry → List Judged
judged_as host name entry = if rules_hold host entry.rules then record { name = name; outcome = outcome_of entry } ∷ [] else []

abbrev pub own_judged : Host → List QueryEntry → List Judged
own_judged host entries = flat_map (λ (entry : QueryEntry). judged_as host entry.name entry) entries

abbrev pub judged_in_pack : Host → List ℕ → List QueryEntry → List Judged
judged_in_pack host pack entries = flat_map (λ (entry : QueryEntry). judged_as host (name_in_pack pack entry.name) entry) entries

-- those of a pack that was found and whose rules hold
abbrev pub pack_judged : Host → Pack → Bool → List Judged
pack_judged host pack false = []
pack_judged host pack true = if rules_hold host pack.rules then judged_in_pack host pack.name pack.queries else []

abbrev pub all_pack_judged : Host → List Pack → List Bool → List Judged
all_pack_judged host [] found = []
all_pack_judged host (pack ∷ packs) [] = []
all_pack_judged host (pack ∷ packs) (is_found ∷ found) = pack_judged host pack is_found ++ all_pack_judged host packs found

-- the entries whose rules hold: those of the schedule, and then those of active packs
abbrev pub judged : Config → Host → List Bool → List Judged
judged config host found = own_judged host config.schedule ++ all_pack_judged host config.packs found

-- a name stands before another by their bytes
abbrev pub is_before : Judged → Judged → Bool
is_before first second = is_lt (slice_cmp nat_cmp first.name second.name)

-- these in byte order of their names, those of one name as they stood
pub record IsInOrder (listed ordered : List Judged) : Type 0 where
  pub rising : IsSortedBy is_before ordered
  pub stable : IsStableBy is_before listed ordered
