-- What a session that ended early knows of its kept list.
use Rattle.std.specs.Prelude.{◌≡◌, ◌⊎◌, ℕ, true, List, [], ◌∷◌, ◌++◌, length, Option, None, Some}
use Rattle.osq_outside.specs.declared.source.Source as source_trait
use Rattle.batch_keeper.specs.declared.keeper.Keeper as keeper_trait
use Rattle.entry_model.specs.declared.entry.Entry.{Entry}
use Rattle.entry_model.specs.declared.restored.Taken.{Taken}
use Rattle.entry_model.specs.Legal.{Legal}
use Rattle.entry_model.specs.Summary.{summary}
use Rattle.entry_model.specs.Values.{acked_upto, commits, last_number}
use Rattle.daemon_rounds.specs.Starting.{HasShrunk}
use Rattle.session_model.specs.Sessions.{Beat}
use Rattle.replay_rounds.specs.Fixed.{Fixed, Linked, Run}
use Rattle.replay_rounds.specs.Linking.{readings_of}
use Rattle.replay_rounds.specs.Running.{Grows}
use Rattle.replay_rounds.specs.declared.basis.Basis.{Basis}
use Rattle.replay_rounds.specs.declared.refused.Numbers.{Numbers}
use Rattle.replay_rounds.specs.declared.refused.RunError.{RunError}
use Rattle.replay_rounds.specs.declared.refused.RunError.TheVariants as running

-- these are the list's numbers
pub record HasNumbers (kept : List Entry) (numbers : Numbers) : Type 0 where
  pub events : numbers.events ≡ last_number kept
  pub batches : numbers.batches ≡ length (commits kept)
  pub acknowledged : numbers.acknowledged ≡ acked_upto kept

-- those of the list as it is
abbrev pub AreNumbersOf : Fixed → List Entry → Numbers → Type 0
AreNumbersOf x kept numbers = x.keeper_tells → Legal x.start → HasNumbers kept numbers

-- those of the list as it was loaded, whether it is legal or not; nothing else was done
abbrev pub AreLoaded : Run → List Entry → Numbers → Type 0
AreLoaded run kept numbers = run.has_read [] × (run.fixed.keeper_tells → HasNumbers kept numbers)

-- These are all readings of the clock that no tick had in the list: one where the seal of a tick failed; none where one failed behind a tick, with a link.
abbrev pub IsFailedAt : Linked → List ℕ → Type 0
IsFailedAt link more = ((last : ℕ) × (more ≡ last ∷ [])) ⊎ ((link.forwards ≡ true) × (more ≡ []))

-- Those of the list as it was before the keeper failed: it had grown by the ticks at all readings of the clock, but for the last where its tick's seal failed.
pub record AreSealed (run : Run) (kept : List Entry) (numbers : Numbers) : Type 0 where
  pub beats : List Beat
  pub more : List ℕ
  pub read : run.has_read (readings_of beats ++ more)
  pub failed : IsFailedAt run.fixed.link more
  pub sealed : List Entry
  pub entries : List Entry
  pub grows : Grows run.fixed sealed beats entries
  pub kept_is : run.fixed.keeper_tells → (more : List Entry) × (kept ≡ sealed ++ more)
  pub are : AreNumbersOf run.fixed sealed numbers

-- the numbers of a session that ended for this reason
abbrev pub AreNumbersFor : RunError → Run → List Entry → Numbers → Type 0
AreNumbersFor running.KeeperFault run kept numbers = AreSealed run kept numbers
AreNumbersFor running.KeeperRefused run kept numbers = AreLoaded run kept numbers
AreNumbersFor (running.MomentTooLarge moment) run kept numbers = AreNumbersOf run.fixed kept numbers
AreNumbersFor (running.SourceFault place) run kept numbers = AreNumbersOf run.fixed kept numbers
AreNumbersFor (running.SourceShrank place had found) run kept numbers = AreNumbersOf run.fixed kept numbers
AreNumbersFor running.NumbersSpent run kept numbers = AreNumbersOf run.fixed kept numbers
AreNumbersFor running.SinkFault run kept numbers = AreNumbersOf run.fixed kept numbers
AreNumbersFor running.NoMemory run kept numbers = AreNumbersOf run.fixed kept numbers

-- the list wasn't loaded
abbrev pub IsUnloaded : RunError → Type 0
IsUnloaded running.KeeperFault = Unit {0}
IsUnloaded running.NoMemory = Unit {0}
IsUnloaded error = ⊥

-- the list was loaded, and a session may go on from it
abbrev pub IsBehindLoading : RunError → Type 0
IsBehindLoading running.KeeperFault = ⊥
IsBehindLoading running.KeeperRefused = ⊥
IsBehindLoading running.NoMemory = ⊥
IsBehindLoading error = Unit {0}

-- Without numbers the list wasn't loaded, the clock wasn't read, and nothing was told.
abbrev pub Stops : Run → List Entry → (untold : Type 0) → RunError → Option Numbers → Type 0
Stops run kept untold error None = IsUnloaded error × run.has_read [] × untold
Stops run kept untold error (Some numbers) = AreNumbersFor error run kept numbers

-- The source at this place ended after `found` bytes, before the `kept` bytes that the list behind which the session opens has of it.
abbrev pub HasShrunkFor : {K S : Type 0} → keeper_trait.Ghosts K → source_trait.Ghosts S → Basis → K → (place kept found : ℕ) → List S → Type 0
HasShrunkFor keeper source basis before place kept found objects =
    (taken : List Taken) × (keeper.tells → taken ≡ (summary (keeper.kept before)).taken) × HasShrunk source.tells source.left taken basis.setup.sources place kept found objects
