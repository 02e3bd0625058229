-- Why a file gives no configuration.
use Rattle.std.specs.Prelude.{◌≡◌, ◌≢◌, ◌⊎◌, ℕ, List, Contains, Option, Some, None, Ok, Err}
use Rattle.osq_config.specs.declared.config.Config.{Config}
use Rattle.osq_config.specs.declared.error.ConfigError.{ConfigError}
use Rattle.osq_config.specs.declared.error.ConfigError.TheVariants.{NoMemory as WantsMemory}
use Rattle.osq_config.specs.declared.file.PackFile.{PackFile}
use Rattle.osq_config.specs.Counts.{fault_of_config}
use Rattle.osq_config.specs.Files.{files_of}
use Rattle.osq_config.specs.Reads.{Answers}
use Rattle.osq_config.specs.Values.{config_of}
use Rattle.config_files.specs.declared.error.ConfiguredError.{ConfiguredError}
use Rattle.config_files.specs.declared.error.ConfiguredError.TheVariants.{Fault, Missing, Refused, NoMemory}

-- the file's document has this fault
pub record IsFaulty (files_tell : Type 0) (file : List ℕ → Option (List ℕ)) (path : List ℕ) (error : ConfigError) : Type 0 where
  pub document : List ℕ
  pub found : files_tell → file path ≡ Some document
  pub whole : error ≢ WantsMemory
  pub faults : Answers {X = Config} fault_of_config config_of document (Err error)

-- a file of a pack of the configuration in the file of this path
pub record IsPackFile (files_tell : Type 0) (file : List ℕ → Option (List ℕ)) (path unread : List ℕ) : Type 0 where
  pub document : List ℕ
  pub found : files_tell → file path ≡ Some document
  pub read : Config
  pub reads : Answers fault_of_config config_of document (Ok read)
  pub pack : PackFile
  pub among : Contains (files_of read.packs) pack
  pub is : unread ≡ pack.path

-- the files failed where this file or that of a pack was to be read, there is no such file, or its document has a fault
abbrev pub IsCaused : (files_tell : Type 0) → (List ℕ → Option (List ℕ)) → List ℕ → Type 0 → ConfiguredError → Type 0
IsCaused files_tell file path failed (Fault unread) = failed × ((unread ≡ path) ⊎ IsPackFile files_tell file path unread)
IsCaused files_tell file path failed Missing = files_tell → file path ≡ None
IsCaused files_tell file path failed (Refused error) = IsFaulty files_tell file path error
IsCaused files_tell file path failed NoMemory = Unit {0}
