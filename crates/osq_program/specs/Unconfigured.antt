-- Why a command has no configuration, and what is answered then.
use Rattle.std.specs.Prelude.{◌≡◌, ◌⊎◌, ℕ, List, Option}
use Rattle.config_files.specs.Causes.{IsPackFile}
use Rattle.osq_program.specs.declared.configuration.Unconfigured.{Unconfigured}
use Rattle.osq_program.specs.declared.configuration.Unconfigured.TheVariants.{Unread, Refused}
use Rattle.osq_program.specs.declared.status.Status.{Status}
use Rattle.osq_program.specs.Answers.{IsCaused, no_causes}
use Rattle.osq_program.specs.Report.{IsRefusedAs, IsUnread, refusal_line, unread_text}

-- it is the configuration's file, or that of one of its packs
abbrev pub IsFileOf : (files_tell : Type 0) → (List ℕ → Option (List ℕ)) → List ℕ → List ℕ → Type 0
IsFileOf files_tell file path unread = (unread ≡ path) ⊎ IsPackFile files_tell file path unread

-- a fault of the files at a file of these, or a document that is refused so
abbrev pub IsCausedBy : (failed : Type 0) → (List ℕ → Type 0) → (List ℕ → List ℕ → Type 0) → Unconfigured → Type 0
IsCausedBy failed is_file is_refused (Unread file) = failed × is_file file
IsCausedBy failed is_file is_refused (Refused status) = IsCaused (record no_causes { refused = is_refused }) status

-- the answer
abbrev pub IsAnswered : Unconfigured → Status → Type 0
IsAnswered (Unread file) status = IsUnread status
IsAnswered (Refused refused) status = IsRefusedAs refused status

-- and what is told
abbrev pub unconfigured_text : Unconfigured → Status → List ℕ
unconfigured_text (Unread file) status = unread_text file status
unconfigured_text (Refused refused) status = refusal_line status
