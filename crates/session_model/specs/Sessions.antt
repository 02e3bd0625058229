-- What one session may add to a kept list.
use Rattle.std.specs.Prelude.{◌≡◌, ℕ, ◌+◌, max, Bool, true, false, List, [], ◌∷◌, ◌++◌, filter, Option}
use Rattle.config_files.specs.Configurations.{IsConfigOf}
use Rattle.entry_model.specs.declared.entry.Entry.{Entry}
use Rattle.entry_model.specs.declared.entry.Entry.TheVariants.{Opened}
use Rattle.entry_model.specs.Legal.{Legal}
use Rattle.entry_model.specs.Values.{moment_of, sessions}
use Rattle.osq_value.specs.declared.source.SourceKind.{SourceKind}
use Rattle.osq_value.specs.declared.source.SourceKind.TheVariants.{Tables}
use Rattle.session_model.specs.Configuring.{Configures}
use Rattle.session_model.specs.Given.{Given, Source}
use Rattle.session_model.specs.Taking.{GivesSteps}
use Rattle.session_model.specs.Orders.{Order, TicksIn}
use Rattle.session_model.specs.Working.{acks_of}

abbrev pub is_tables : SourceKind → Bool
is_tables Tables = true
is_tables _ = false

-- Before its first tick a session opens, takes a step of each source of tables, and is configured once, at the moment of the clock's first
-- reading or the last moment that was kept, whichever is later. `tells` says whether the sources tell their bytes.
pub record Opens (tells : Type 0) (given : Given) (kept : List Entry) (reading : ℕ) (entries : List Entry) : Type 0 where
  pub tables : List Entry
  pub configured : Entry
  pub takes : GivesSteps tells given (kept ++ Opened (sessions kept + 1) 2 ∷ []) (filter (λ (source : Source). is_tables source.kind) given.sources) tables
  pub configures : Configures given (kept ++ (Opened (sessions kept + 1) 2 ∷ tables)) (max reading (moment_of kept)) configured
  pub are : entries ≡ Opened (sessions kept + 1) 2 ∷ tables ++ configured ∷ []

-- What the world gives a tick: the clock's reading, and of each answer that is polled behind its seal the mark. Of an answer that is none of this host
-- there is no mark.
pub record Beat : Type 0 where
  pub reading : ℕ
  pub polled : List (Option ℕ)

-- no answer is polled
abbrev pub quiet : ℕ → Beat
quiet reading = record { reading = reading; polled = [] }

-- A tick at each of these readings of the clock, or at the moment before where that is later; all of it is sealed, and what the answers give that are
-- polled then is acknowledged.
abbrev pub TicksAt : Order → Type 0 → Given → List Entry → List Beat → List Entry → Type 0
TicksAt order tells given kept [] entries = entries ≡ []
TicksAt order tells given kept (beat ∷ beats) entries =
    (own others : List Entry) × TicksIn order tells given kept (max beat.reading (moment_of kept)) own
    × TicksAt order tells given (kept ++ (own ++ acks_of (kept ++ own) beat.polled)) beats others × (entries ≡ (own ++ acks_of (kept ++ own) beat.polled) ++ others)

-- A session whose ticks are worked on in this order, at these readings of the clock, of which the first is that of the opening and of the first tick: it
-- opens, and then it ticks. What the configuration gives is a matter of its documents alone, and the list with the session behind it is legal.
pub record IsSession (order : Order) (tells : Type 0) (given : Given) (kept : List Entry) (first : Beat) (beats : List Beat) (entries : List Entry) : Type 0 where
  pub notes : List ℕ
  pub configuration : IsConfigOf given.documents given.config notes
  pub opening : List Entry
  pub ticks : List Entry
  pub opens : Opens tells given kept first.reading opening
  pub ticks_at : TicksAt order tells given (kept ++ opening) (first ∷ beats) ticks
  pub are : entries ≡ opening ++ ticks
  pub legal : Legal (kept ++ entries)
