-- What sending frames leaves.
use Rattle.std.specs.Prelude.{◌≡◌, ◌⊎◌, ℕ, Bool, true, false, List, [], ◌∷◌, ◌++◌, length, take, Option, Some, None, option_and_then}
use Rattle.entry_model.specs.declared.entry.Entry.{Entry}
use Rattle.entry_model.specs.Values.{acked_upto, commits}
use Rattle.batch_keeper.specs.Fetching.{fetched}
use Rattle.batch_forwarder.specs.declared.forwarder.Forwarder.{Forwarder}
use Rattle.batch_forwarder.specs.Frames.{frame_for}
use Rattle.batch_forwarder.specs.Windows.{next_of}

-- the forwarder has the mark and the count of this list
pub record IsOver (entries : List Entry) (forwarder : Forwarder) : Type 0 where
  pub acked : forwarder.acked ≡ acked_upto entries
  pub sealed : forwarder.sealed ≡ length (commits entries)

-- the frame of the batch that is next, where one can be made
abbrev pub next_frame : List ℕ → Forwarder → List Entry → Option (List ℕ)
next_frame host forwarder entries = option_and_then (λ number. option_and_then (frame_for host) (fetched entries number)) (next_of forwarder)

-- the next frame was sent; or none was, since there is none or the link failed
abbrev pub SendsNext : Option (List ℕ) → Type 0 → List (List ℕ) → List (List ℕ) → Bool → Type 0
SendsNext due failed before after true = (frame : List ℕ) × (due ≡ Some frame) × (after ≡ before ++ frame ∷ [])
SendsNext due failed before after false = (after ≡ before) × ((due ≡ None) ⊎ failed)

-- the frames sent have grown by the first of those that are due
pub record SendsFront (due before after : List (List ℕ)) : Type 0 where
  pub count : ℕ
  pub sent : after ≡ before ++ take count due
