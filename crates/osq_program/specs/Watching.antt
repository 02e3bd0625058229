-- The paths whose changes a question sees.
use Rattle.std.specs.Prelude.{◌≡◌, ℕ, List, [], Option, None, Some}
use Rattle.osq_config.specs.declared.config.Config.{Config}
use Rattle.osq_value.specs.declared.reading.Category.{Category}
use Rattle.config_files.specs.Configurations.{IsConfigured}
use Rattle.osq_program.specs.Checking.{IsRefusedFor}
use Rattle.osq_program.specs.Unconfigured.{IsFileOf}

-- they are those of the configuration in this file, and a line tells of each of its packs that is left out
pub record AreOf (files_tell : Type 0) (file : List ℕ → Option (List ℕ)) (path : List ℕ) (paths : List Category) (notes : List ℕ) : Type 0 where
  pub config : Config
  pub documents : List (List ℕ)
  pub configured : IsConfigured files_tell file path config documents notes
  pub are : paths ≡ config.categories

-- where no configuration is named there are none, and nothing to tell
abbrev pub AreWatched : (files_tell : Type 0) → (List ℕ → Option (List ℕ)) → Option (List ℕ) → List Category → List ℕ → Type 0
AreWatched files_tell file None paths notes = (paths ≡ []) × (notes ≡ [])
AreWatched files_tell file (Some path) paths notes = AreOf files_tell file path paths notes

pub record Watches (files_tell : Type 0) (file : List ℕ → Option (List ℕ)) (config : Option (List ℕ)) : Type 0 where
  pub paths : List Category
  pub notes : List ℕ
  pub are : AreWatched files_tell file config paths notes

-- a configuration is named, and refused by a fault of this kind at this key
abbrev pub IsRefusedIn : (files_tell : Type 0) → (List ℕ → Option (List ℕ)) → Option (List ℕ) → List ℕ → List ℕ → Type 0
IsRefusedIn files_tell file None kind key = ⊥
IsRefusedIn files_tell file (Some path) kind key = IsRefusedFor files_tell file path kind key

-- it is a file of the configuration that is named
abbrev pub IsFileIn : (files_tell : Type 0) → (List ℕ → Option (List ℕ)) → Option (List ℕ) → List ℕ → Type 0
IsFileIn files_tell file None unread = ⊥
IsFileIn files_tell file (Some path) unread = IsFileOf files_tell file path unread
