-- Batches that are made at the present moment, by the notes of a store alone.
use Rattle.std.specs.Prelude.{◌≡◌, ℕ, List, [], ◌∷◌, ◌++◌}
use Rattle.entry_model.specs.declared.entry.Entry.{Entry}
use Rattle.entry_model.specs.declared.entry.Entry.TheVariants.{Committed}
use Rattle.entry_model.specs.Values.{last_of, moment_in}
use Rattle.session_state.specs.Kept.{Kept}
use Rattle.turn_lock.specs.Turns.{entries}
use Rattle.shared_store.specs.declared.noted.Noted.{Noted}
use Rattle.shared_store.specs.declared.noted.Noted.TheVariants.{Added, Given, Taken}
use Rattle.shared_store.specs.Notes.{entries_in}
use Rattle.thread_laws.specs.Jobs.{Stamped}

-- the moment behind these notes
abbrev pub moment_at : Kept → List Noted → ℕ
moment_at start notes = last_of moment_in start.counts.moment (entries_in notes)

-- if the entry is a batch, it has this moment
abbrev pub IsMadeAt : ℕ → Entry → Type 0
IsMadeAt now (Committed batch) = batch.moment ≡ now
IsMadeAt now _ = Unit {0}

abbrev pub IsNotedAt : ℕ → Noted → Type 0
IsNotedAt now (Added entry) = IsMadeAt now entry
IsNotedAt now Taken = Unit {0}
IsNotedAt now (Given cut) = Unit {0}

-- each batch under this number has the moment behind the notes before its own place
abbrev pub AreTimely : Kept → ℕ → Stamped → Stamped → Type 0
AreTimely start number before [] = Unit {0}
AreTimely start number before (note ∷ more) =
    (note.0 ≡ number → IsNotedAt (moment_at start (entries before)) note.1) × AreTimely start number (before ++ note ∷ []) more
