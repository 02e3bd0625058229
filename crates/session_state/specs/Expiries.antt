-- The expiries that a state owes, and what becomes of it when they are added.
use Rattle.std.specs.Prelude.{◌≡◌, ℕ, List, [], ◌∷◌, filter_map, Option, Some, None, option_map}
use Rattle.osq_value.specs.Catalogue.{evented_ids}
use Rattle.entry_model.specs.declared.entry.Entry.{Entry}
use Rattle.entry_model.specs.declared.entry.Entry.TheVariants.{Expired}
use Rattle.session_state.specs.Kept.{Kept}
use Rattle.session_state.specs.StateOf.{Adds}
use Rattle.session_state.specs.Ticks.{owed_at}

-- the expiry of a table, if events of it are to expire
abbrev pub expiry_of : Kept → ℕ → Option Entry
expiry_of s table = option_map (λ (floor : ℕ). Expired (record { 0 = table }) floor s.counts.moment) (owed_at s table)

-- those of the evented tables, in the order of the catalogue
abbrev pub expiries : Kept → List Entry
expiries s = filter_map (expiry_of s) evented_ids

-- the state stands for the same list
pub record Stays (old new : Kept) : Type 0 where
  pub counts : new.counts ≡ old.counts
  pub image : new.image ≡ old.image
  pub schedule : new.schedule ≡ old.schedule
  pub ticked : new.ticked ≡ old.ticked
  pub marks : new.marks ≡ old.marks
  pub tail : new.tail ≡ old.tail

-- one entry after another was added
abbrev pub AddsAll : Kept → List Entry → Kept → Type 0
AddsAll old [] new = Stays old new
AddsAll old (entry ∷ rest) new = (next : Kept) × Adds old entry next × AddsAll next rest new

abbrev pub AddsSome : Kept → Option Entry → Kept → Type 0
AddsSome old None new = Stays old new
AddsSome old (Some entry) new = Adds old entry new
