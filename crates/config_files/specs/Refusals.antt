-- What is answered to the errors of files and of documents.
use Rattle.std.specs.Prelude.{◌≡◌, ℕ, List, Contains}
use Rattle.osq_config.specs.declared.error.ConfigError.{ConfigError}
use Rattle.osq_config.specs.declared.error.ConfigError.TheVariants.{NotJson, WrongShape, OutOfRange, TooManyQueries, NoMemory as DocumentWantsMemory}
use Rattle.osq_config.specs.declared.file.PackFile.{PackFile}
use Rattle.osq_outside.specs.declared.files.FilesError.{FilesError}
use Rattle.osq_outside.specs.declared.files.FilesError.TheVariants.{Fault as FilesFault}
use Rattle.config_files.specs.declared.error.ConfiguredError.{ConfiguredError}
use Rattle.config_files.specs.declared.error.ConfiguredError.TheVariants.{Fault, Refused, NoMemory}

-- the file of this path isn't read: the files failed there, or memory was wanting
abbrev pub IsUnread : List ℕ → FilesError → ConfiguredError → Type 0
IsUnread path error (Fault file) = (error ≡ FilesFault) × (file ≡ path)
IsUnread path error NoMemory = Unit {0}
IsUnread path error refused = ⊥

-- the files failed where the file of this path was to be read, or memory was wanting
abbrev pub IsUnreadAt : List ℕ → Type 0 → ConfiguredError → Type 0
IsUnreadAt path failed (Fault file) = failed × (file ≡ path)
IsUnreadAt path failed NoMemory = Unit {0}
IsUnreadAt path failed refused = ⊥

-- why packs aren't added: the files failed where one of these was to be read, or memory was wanting
abbrev pub IsUnreadOf : List PackFile → Type 0 → ConfiguredError → Type 0
IsUnreadOf packs failed (Fault file) = failed × ((pack : PackFile) × Contains packs pack × (file ≡ pack.path))
IsUnreadOf packs failed NoMemory = Unit {0}
IsUnreadOf packs failed refused = ⊥

abbrev pub of_document : ConfigError → ConfiguredError
of_document NotJson = Refused NotJson
of_document (WrongShape key) = Refused (WrongShape key)
of_document (OutOfRange key) = Refused (OutOfRange key)
of_document TooManyQueries = Refused TooManyQueries
of_document DocumentWantsMemory = NoMemory
