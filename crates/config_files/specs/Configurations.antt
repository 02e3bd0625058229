-- The configuration in a file.
use Rattle.std.specs.Prelude.{◌≡◌, ℕ, List, ◌∷◌, Option, Some, Ok}
use Rattle.osq_config.specs.declared.config.Config.{Config}
use Rattle.osq_config.specs.Counts.{fault_of_config}
use Rattle.osq_config.specs.Files.{files_of}
use Rattle.osq_config.specs.Reads.{Answers}
use Rattle.osq_config.specs.Values.{config_of}
use Rattle.config_files.specs.Adding.{AddsPacks}
use Rattle.config_files.specs.Texts.{texts_in}

-- The configuration that the first of these documents holds, with the packs that are given as a path: the other documents are theirs, one
-- for each in byte order of names. The lines tell of packs that are left out.
pub record IsConfigOf (documents : List (List ℕ)) (config : Config) (lines : List ℕ) : Type 0 where
  pub document : List ℕ
  pub texts : List (List ℕ)
  pub are : documents ≡ document ∷ texts
  pub read : Config
  pub reads : Answers fault_of_config config_of document (Ok read)
  pub packs : AddsPacks (files_of read.packs) texts read config lines

-- the same, where the documents are those in the file of this path and in the files of its packs
pub record IsConfigured (files_tell : Type 0) (file : List ℕ → Option (List ℕ)) (path : List ℕ) (config : Config) (documents : List (List ℕ)) (lines : List ℕ) : Type 0 where
  pub holds : IsConfigOf documents config lines
  pub found : files_tell → file path ≡ Some holds.document
  pub told : files_tell → holds.texts ≡ texts_in file (files_of holds.read.packs)
