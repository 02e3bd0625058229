-- What is told of a configuration on a host.
use Rattle.std.specs.Prelude.{◌≡◌, ℕ, Bool, true, false, if◌then◌else◌, List, [], ◌++◌, flat_map, filter, bytes_eq, Option, Some, None, codes}
use Rattle.std.specs.Fmt.{decimal}
use Rattle.std.specs.List.{dedup}
use Rattle.control_escapes.specs.Escapes.{escaped_controls}
use Rattle.osq_config.specs.declared.config.Config.{Config}
use Rattle.osq_config.specs.declared.config.Pack.{Pack}
use Rattle.sql_texts.specs.declared.text.TextError.{TextError}
use Rattle.sql_texts.specs.TextFaults.{text_fault, place_of_fault, name_of_fault}
use Rattle.pack_rules.specs.declared.host.Host.{Host}
use Rattle.pack_rules.specs.Hosts.{rules_hold}
use Rattle.schedule_notes.specs.declared.entries.Judged.{Judged}
use Rattle.schedule_notes.specs.declared.entries.Outcome.{Outcome}
use Rattle.schedule_notes.specs.declared.entries.Outcome.TheVariants.{Refused, AsConfigured, AsSnapshot}
use Rattle.schedule_notes.specs.Listed.{IsInOrder, judged}

-- `osqd: WHAT NAME` and what is told of it, a line that no byte of the name ends
abbrev pub line_of : List ℕ → List ℕ → List ℕ → List ℕ
line_of what name told = what ++ escaped_controls name ++ told

-- a text is refused at a place, by a kind of fault
abbrev pub refusal : TextError → List ℕ
refusal fault = codes " refused at " ++ decimal (place_of_fault fault) ++ codes ": " ++ name_of_fault fault ++ codes "\n"

-- a refused query
abbrev pub refused_by : List ℕ → Outcome → List ℕ
refused_by name (Refused fault) = line_of (codes "osqd: query ") name (refusal fault)
refused_by name AsConfigured = []
refused_by name AsSnapshot = []

abbrev pub refused_line : Judged → List ℕ
refused_line entry = refused_by entry.name entry.outcome

-- a refused discovery text
abbrev pub discovery_by : List ℕ → Option TextError → List ℕ
discovery_by name None = []
discovery_by name (Some fault) = line_of (codes "osqd: pack ") name (codes " discovery" ++ refusal fault)

abbrev pub discovery_lines : Host → Pack → List ℕ
discovery_lines host pack = if rules_hold host pack.rules then flat_map (λ (text : List ℕ). discovery_by pack.name (text_fault text)) pack.discovery else []

-- a query that runs as a snapshot unasked
abbrev pub snapshot_by : List ℕ → Outcome → List ℕ
snapshot_by name (Refused fault) = []
snapshot_by name AsConfigured = []
snapshot_by name AsSnapshot = line_of (codes "osqd: query ") name (codes " runs as a snapshot\n")

abbrev pub snapshot_line : Judged → List ℕ
snapshot_line entry = snapshot_by entry.name entry.outcome

-- an entry is scheduled where its text is accepted, and of those of one name the first
abbrev pub is_accepted_by : Outcome → Bool
is_accepted_by (Refused fault) = false
is_accepted_by AsConfigured = true
is_accepted_by AsSnapshot = true

abbrev pub is_taken : Judged → Bool
is_taken entry = is_accepted_by entry.outcome

abbrev pub has_same_name : Judged → Judged → Bool
has_same_name later earlier = bytes_eq later.name earlier.name

-- The lines that tell of a configuration on a host, where `found` says of each pack whether its discovery found something: one for each refused
-- query, one for each refused discovery text, those of packs that are left out, and one for each query that runs as a snapshot unasked. The
-- entries stand in byte order of names.
pub record AreNotes (config : Config) (host : Host) (found : List Bool) (left_out lines : List ℕ) : Type 0 where
  pub ordered : List Judged
  pub in_order : IsInOrder (judged config host found) ordered
  pub are : lines ≡ (flat_map refused_line ordered ++ flat_map (discovery_lines host) config.packs)
      ++ (left_out ++ flat_map snapshot_line (dedup has_same_name (filter is_taken ordered)))
