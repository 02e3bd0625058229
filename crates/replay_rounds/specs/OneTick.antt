-- Ticks among entries, and entries of one tick alone.
use Rattle.std.specs.Prelude.{◌≡◌, ℕ, Bool, true, false, All, List, [], ◌∷◌, ◌++◌, filter, length}
use Rattle.entry_model.specs.declared.entry.Entry.{Entry}
use Rattle.entry_model.specs.declared.entry.Entry.TheVariants.{Ticked}
use Rattle.session_model.specs.Working.{is_batch}

abbrev pub is_tick : Entry → Bool
is_tick (Ticked moment) = true
is_tick _ = false

-- how many ticks begin among these entries
abbrev pub ticks_of : List Entry → ℕ
ticks_of entries = length (filter is_tick entries)

-- nothing, or the entries of one tick
abbrev pub IsOneTick : List Entry → Type 0
IsOneTick [] = Unit {0}
IsOneTick (entry ∷ rest) = (is_tick entry ≡ true) × All (λ (later : Entry). is_tick later ≡ false) rest

-- of these entries the last tick, before which there is no batch
pub record HasOneTick (entries : List Entry) : Type 0 where
  pub opening : List Entry
  pub tick : List Entry
  pub are : entries ≡ opening ++ tick
  pub silent : All (λ (entry : Entry). is_batch entry ≡ false) opening
  pub one : IsOneTick tick
