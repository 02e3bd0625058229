-- What a tick adds, in whatever order those who work on it come to their turns.
use Rattle.std.specs.Prelude.{◌≡◌, ℕ, Bool, true, false, ◌||◌, ◌&&◌, nat_lt, nat_le, if◌then◌else◌, List, [], ◌∷◌, ◌++◌, length, map, All, Option, Some, None}
use Rattle.std.specs.List.{list_any}
use Rattle.entry_model.specs.declared.entry.Entry.{Entry}
use Rattle.entry_model.specs.declared.entry.Entry.TheVariants.{Acked, Committed, Ticked}
use Rattle.entry_model.specs.Values.{acked_upto, commits}
use Rattle.entry_model.specs.Views.{due_queries}
use Rattle.session_model.specs.Configuring.{ConfiguresAgain}
use Rattle.session_model.specs.Given.{Given, Source}
use Rattle.session_model.specs.Taking.{GivesStep, from_source, is_from}
use Rattle.session_model.specs.Ticking.{expiries_of}

abbrev pub is_batch : Entry → Bool
is_batch (Committed batch) = true
is_batch _ = false

-- the entry is a batch, or a reading of one of these sources
abbrev pub is_part : List Source → Entry → Bool
is_part sources entry = is_batch entry || list_any (λ (source : Source). is_from source.name entry) sources

-- Behind this list each source gives the entries of one step, in their order, and what else there is are batches; how they lie between one
-- another is free. Behind them no query is due.
pub record Works (tells : Type 0) (given : Given) (kept body : List Entry) : Type 0 where
  pub takes : All (λ (source : Source). GivesStep tells given kept source (from_source source.name body)) given.sources
  pub parts : All (λ (entry : Entry). is_part given.sources entry ≡ true) body
  pub answered : due_queries (kept ++ body) ≡ []

-- of the marks that answers give, one after another, those that move the mark on, which never passes the number of the sealed batches
abbrev pub marks_beyond : ℕ → ℕ → List (Option ℕ) → List ℕ
marks_beyond mark sealed [] = []
marks_beyond mark sealed (None ∷ rest) = marks_beyond mark sealed rest
marks_beyond mark sealed (Some upto ∷ rest) =
    if nat_lt mark upto && nat_le upto sealed then upto ∷ marks_beyond upto sealed rest else marks_beyond mark sealed rest

-- what is acknowledged by answers that are polled behind this list, which is sealed
abbrev pub acks_of : List Entry → List (Option ℕ) → List Entry
acks_of kept polled = map Acked (marks_beyond (acked_upto kept) (length (commits kept)) polled)

-- At this moment the tick begins; the session is configured again where that is due; the sources and the due queries have their entries; and what
-- is then owed expires.
pub record Passes (tells : Type 0) (given : Given) (kept : List Entry) (moment : ℕ) (entries : List Entry) : Type 0 where
  pub configured : List Entry
  pub body : List Entry
  pub configures : ConfiguresAgain given (kept ++ Ticked moment ∷ []) moment configured
  pub works : Works tells given (kept ++ (Ticked moment ∷ configured)) body
  pub are : entries ≡ Ticked moment ∷ configured ++ body ++ expiries_of (kept ++ (Ticked moment ∷ configured ++ body))
