-- Why a file isn't read.
use Rattle.std.proofs.Common.{◌≡◌, ℕ, List}
use Rattle.osq_outside.specs.declared.files.FilesError.{FilesError}
use Rattle.osq_outside.specs.declared.files.FilesError.TheVariants.{Fault as FilesFault}
use Rattle.config_files.specs.declared.error.ConfiguredError.{ConfiguredError}
use Rattle.config_files.specs.declared.error.ConfiguredError.TheVariants.{Fault, Missing, Refused, NoMemory}
use Rattle.config_files.specs.Refusals.{IsUnread, IsUnreadAt}

pub at_path : (path : List ℕ) (error : FilesError) (failed : Type 0) (refused : ConfiguredError) → IsUnread path error refused → (error ≡ FilesFault → failed) → IsUnreadAt path failed refused
at_path path error failed (Fault file) is why = (why is.0, is.1)
at_path path error failed Missing is why = absurd is
at_path path error failed (Refused fault) is why = absurd is
at_path path error failed NoMemory is why = tt
