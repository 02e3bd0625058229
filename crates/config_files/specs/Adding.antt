-- The packs of a configuration that stand in files of their own.
use Rattle.std.specs.Prelude.{◌≡◌, ◌≢◌, ◌⊎◌, ℕ, true, List, [], ◌∷◌, ◌++◌, Ok, Err}
use Rattle.osq_config.specs.declared.config.Config.{Config}
use Rattle.osq_config.specs.declared.config.Pack.{Pack}
use Rattle.osq_config.specs.declared.error.ConfigError.{ConfigError}
use Rattle.osq_config.specs.declared.error.ConfigError.TheVariants.{NoMemory}
use Rattle.osq_config.specs.declared.file.PackFile.{PackFile}
use Rattle.osq_config.specs.Counts.{query_count}
use Rattle.osq_config.specs.Files.{Fills, fault_of_file, left_out}
use Rattle.osq_config.specs.Names.{names_rise, pack_names}
use Rattle.osq_config.specs.Reads.{Answers}
use Rattle.config_files.specs.Naming.{kind_of_error, left_out_line}

-- this text's pack goes in and no line tells of it, or by its fault the pack is left out and a line tells so
abbrev pub AddsPack : List ℕ → List ℕ → Config → Config → List ℕ → Type 0
AddsPack text name before after line =
    (Answers {X = Unit {0}} (fault_of_file before) (λ _. tt) text (Ok tt) × Fills name text before after × (line ≡ []))
    ⊎ ((error : ConfigError) × (error ≢ NoMemory) × Answers {X = Unit {0}} (fault_of_file before) (λ _. tt) text (Err error)
    × (after ≡ record before { packs = left_out name before.packs }) × (line ≡ left_out_line name (kind_of_error error)))

-- so are the packs of these files, one after another, each by its text
abbrev pub AddsPacks : List PackFile → List (List ℕ) → Config → Config → List ℕ → Type 0
AddsPacks [] [] before after lines = (after ≡ before) × (lines ≡ [])
AddsPacks [] (text ∷ texts) before after lines = ⊥
AddsPacks (pack ∷ packs) [] before after lines = ⊥
AddsPacks (pack ∷ packs) (text ∷ texts) before after lines =
    (next : Config) × (line rest : List ℕ) × AddsPack text pack.name before next line × AddsPacks packs texts next after rest × (lines ≡ line ++ rest)

-- the configuration with these packs behind its own
abbrev pub with_packs : Config → List Pack → Config
with_packs config packs = record config { packs = config.packs ++ packs }

-- with these packs behind its own the configuration's names rise, and it holds so many queries
pub record HoldsWith (config : Config) (packs : List Pack) (count : ℕ) : Type 0 where
  pub names : names_rise (pack_names (config.packs ++ packs)) ≡ true
  pub held : count ≡ query_count config.schedule (config.packs ++ packs)
