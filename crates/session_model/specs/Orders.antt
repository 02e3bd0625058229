-- The two orders in which the ticks of a session are worked on.
use Rattle.std.specs.Prelude.{ℕ, List}
use Rattle.entry_model.specs.declared.entry.Entry.{Entry}
use Rattle.session_model.specs.Given.{Given}
use Rattle.session_model.specs.Ticking.{Ticks}
use Rattle.session_model.specs.Working.{Passes}

-- source by source, and then query by query; or all at once, in whatever order those who work come to their turns
pub data Order : Type 0 where
  in_turn : Order
  at_once : Order

-- what a tick adds at this moment
abbrev pub TicksIn : Order → Type 0 → Given → List Entry → ℕ → List Entry → Type 0
TicksIn in_turn tells given kept moment entries = Ticks tells given kept moment entries
TicksIn at_once tells given kept moment entries = Passes tells given kept moment entries
