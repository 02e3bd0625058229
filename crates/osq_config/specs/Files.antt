-- Packs whose files are read on their own.
use Rattle.std.specs.Prelude.{◌≡◌, ℕ, ◌+◌, bytes_eq, List, [], ◌∷◌, codes, length, if◌then◌else◌, Option, None, option_map, map}
use Rattle.std.specs.List.{filter_map}
use Rattle.std.specs.Option.{option_or}
use Rattle.serde_json.specs.Data.{Data}
use Rattle.serde_json.specs.Find.{get}
use Rattle.osq_config.specs.declared.config.Config.{Config}
use Rattle.osq_config.specs.declared.config.Pack.{Pack}
use Rattle.osq_config.specs.declared.error.ConfigError.{ConfigError}
use Rattle.osq_config.specs.declared.file.PackFile.{PackFile}
use Rattle.osq_config.specs.Counts.{fault_of_count, query_count}
use Rattle.osq_config.specs.Documents.{HasValue}
use Rattle.osq_config.specs.Faults.{fault_of}
use Rattle.osq_config.specs.Kinds.{pack_kind}
use Rattle.osq_config.specs.Values.{entries_in, pack_with}

-- the file of a pack that is given by its path
abbrev pub file_of : Pack → Option PackFile
file_of pack = option_map (λ (path : List ℕ). record { name = pack.name; path = path }) pack.path

abbrev pub files_of : List Pack → List PackFile
files_of packs = filter_map file_of packs

abbrev pub file_names : List PackFile → List (List ℕ)
file_names files = map (λ (file : PackFile). file.name) files

-- what a pack's file says, under the name and the path that the pack has
abbrev pub refilled : Pack → Pack → Pack
refilled pack read = record { name = pack.name; path = pack.path; discovery = read.discovery; queries = read.queries; rules = read.rules }

-- the packs with what a file says in the one of this name
abbrev pub filled : List ℕ → Pack → List Pack → List Pack
filled name read [] = []
filled name read (pack ∷ packs) = if bytes_eq pack.name name then refilled pack read ∷ packs else pack ∷ filled name read packs

-- the packs without the one of this name
abbrev pub left_out : List ℕ → List Pack → List Pack
left_out name [] = []
left_out name (pack ∷ packs) = if bytes_eq pack.name name then packs else pack ∷ left_out name packs

-- the first fault of a pack's file beside so many queries: its own are tried last, with those
unfoldable pub fault_beside : ℕ → Data → Option ConfigError
fault_beside count d = option_or (fault_of pack_kind [] d) (fault_of_count (count + length (entries_in (get (codes "queries") d))))

-- the same, beside all queries that the configuration holds
abbrev pub fault_of_file : Config → Data → Option ConfigError
fault_of_file config d = fault_beside (query_count config.schedule config.packs) d

-- the pack that a file holds, before it has the name and the path of the configuration's
unfoldable pub file_pack : Data → Pack
file_pack d = pack_with [] None d

-- the file's pack went in, and all else stands
abbrev pub Fills : List ℕ → List ℕ → Config → Config → Type 0
Fills name document old new = (d : Data) × HasValue document d × (new ≡ record old { packs = filled name (file_pack d) old.packs })
