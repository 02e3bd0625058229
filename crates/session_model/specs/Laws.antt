-- The laws of sessions in any order.
use Rattle.std.specs.Prelude.{◌≡◌, ℕ, Bool, true, false, All, List, [], ◌++◌, map, bytes_eq}
use Rattle.entry_model.specs.declared.entry.Entry.{Entry}
use Rattle.entry_model.specs.declared.entry.Entry.TheVariants.{Opened, Configured, Ticked}
use Rattle.entry_model.specs.Fits.{IsDistinct}
use Rattle.entry_model.specs.Legal.{Legal}
use Rattle.entry_model.specs.Views.{due_queries}
use Rattle.session_model.specs.Given.{Given, Source}
use Rattle.session_model.specs.Orders.{in_turn, at_once}
use Rattle.session_model.specs.Sessions.{Beat, IsSession}

abbrev pub names_of : List Source → List (List ℕ)
names_of sources = map (λ (source : Source). source.name) sources

-- A session of one thread over sources of different names is one in some order, which acknowledges the same. `tells` says whether the sources tell their
-- bytes.
abbrev pub Forgets : Type 0 → Type 0
Forgets tells =
    (given : Given) (kept : List Entry) (first : Beat) (beats : List Beat) (entries : List Entry) → IsDistinct bytes_eq (names_of given.sources)
    → IsSession in_turn tells given kept first beats entries → IsSession at_once tells given kept first beats entries

-- no session, tick or schedule begins with the entry
abbrev pub is_within : Entry → Bool
is_within (Opened session rules) = false
is_within (Configured document schedule moment) = false
is_within (Ticked moment) = false
is_within _ = true

-- where no query is due, none becomes due within a tick
abbrev pub StayDone : Type 0
StayDone = (kept more : List Entry) → Legal (kept ++ more) → due_queries kept ≡ [] → All (λ (entry : Entry). is_within entry ≡ true) more → due_queries (kept ++ more) ≡ []
