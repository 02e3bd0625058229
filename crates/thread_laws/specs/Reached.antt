-- What a session has come to by the notes of its store.
use Rattle.std.specs.Prelude.{◌≡◌, ℕ, true, List, None}
use Rattle.entry_model.specs.Views.{is_evented_table}
use Rattle.event_store.specs.Contents.{live_at}
use Rattle.session_state.specs.Kept.{IsState, Kept}
use Rattle.session_state.specs.Ticks.{first_due, held_back_by}
use Rattle.shared_store.specs.declared.noted.Noted.{Noted}
use Rattle.shared_store.specs.Shares.{StandsFor}

-- A state that stands for these notes knows of no query that is due.
pub record NoneDue (start : Kept) (notes : List Noted) : Type 0 where
  pub state : Kept
  pub is : IsState state
  pub stands : StandsFor start notes state
  pub none : first_due state ≡ None

-- The two states have the same values, but for what is claimed and for how much there is room. So the same query is due first by both, and the same keeps a
-- tick from beginning.
pub record AreAlike (one other : Kept) : Type 0 where
  pub counts : one.counts ≡ other.counts
  pub schedule : one.schedule ≡ other.schedule
  pub ticked : one.ticked ≡ other.ticked
  pub marks : one.marks ≡ other.marks
  pub tail : one.tail ≡ other.tail
  pub last : one.image.last ≡ other.image.last
  pub live : (table : ℕ) → is_evented_table table ≡ true → live_at one.image table ≡ live_at other.image table
  pub due : first_due one ≡ first_due other
  pub held_back : held_back_by one ≡ held_back_by other
