-- A session that a spent number ends.
use Rattle.std.specs.Prelude.{◌≡◌, ◌⊎◌, ℕ, ◌+◌, ◌<◌, ◌^◌, max, true, false, All, Option, Contains, List, [], ◌∷◌, ◌++◌, length}
use Rattle.pack_rules.specs.declared.schedule.QueryKey.{QueryKey}
use Rattle.entry_model.specs.declared.entry.Entry.{Entry}
use Rattle.entry_model.specs.declared.entry.Entry.TheVariants.{Ticked}
use Rattle.entry_model.specs.Legal.{Legal}
use Rattle.entry_model.specs.Values.{commits, events_in, last_number, moment_of}
use Rattle.entry_model.specs.Views.{due_queries}
use Rattle.session_model.specs.Configuring.{ConfiguresAgain}
use Rattle.session_model.specs.Given.{Given, Source}
use Rattle.session_model.specs.Orders.{Order, in_turn, at_once}
use Rattle.session_model.specs.Sessions.{Beat, Opens}
use Rattle.session_model.specs.Taking.{TakesStep, TakesSteps}
use Rattle.session_model.specs.Ticking.{Answers}
use Rattle.session_model.specs.Working.{acks_of, is_part}
use Rattle.replay_rounds.specs.Fixed.{Run}
use Rattle.replay_rounds.specs.Linking.{readings_of}
use Rattle.replay_rounds.specs.Running.{Grows}

-- A step of the source behind this list gives these entries, and then one whose events would have numbers beyond 2^62.
pub record StepSpends (given : Given) (kept : List Entry) (source : Source) (entries : List Entry) : Type 0 where
  pub next : Entry
  pub rest : List Entry
  pub step : TakesStep given kept source (entries ++ next ∷ rest)
  pub beyond : 2 ^ 62 < last_number (kept ++ entries) + length (events_in next)

-- each of these sources takes a step, one after another, up to one whose step spends the numbers
abbrev pub StepsSpend : Given → List Entry → List Source → List Entry → Type 0
StepsSpend given kept [] entries = ⊥
StepsSpend given kept (source ∷ sources) entries =
    StepSpends given kept source entries
    ⊎ ((own others : List Entry) × TakesStep given kept source own × StepsSpend given (kept ++ own) sources others × (entries ≡ own ++ others))

-- these are the batches of the first of the queries that are due behind this list, but not of all of them
pub record AnswersFront (kept entries : List Entry) : Type 0 where
  pub front : List QueryKey
  pub next : QueryKey
  pub later : List QueryKey
  pub due : due_queries kept ≡ front ++ next ∷ later
  pub answers : Answers kept front entries

-- Each source takes a step, some of the queries that are then due are answered, and the number of the next one's batch would pass 2^62.
pub record BatchSpends (given : Given) (kept entries : List Entry) : Type 0 where
  pub taken : List Entry
  pub answered : List Entry
  pub takes : TakesSteps given kept given.sources taken
  pub answers : AnswersFront (kept ++ taken) answered
  pub are : entries ≡ taken ++ answered
  pub beyond : 2 ^ 62 < length (commits (kept ++ entries)) + 1

-- A source gives a reading, in one step behind this list, whose events would have numbers beyond 2^62 behind these entries.
pub record ReadingSpends (given : Given) (kept entries : List Entry) : Type 0 where
  pub source : Source
  pub is : Contains given.sources source
  pub done : List Entry
  pub next : Entry
  pub later : List Entry
  pub step : TakesStep given kept source (done ++ next ∷ later)
  pub beyond : 2 ^ 62 < last_number (kept ++ entries) + length (events_in next)

-- These are readings of the sources and batches, and behind them no number is left: for the events of a reading, or for a batch.
pub record PartsSpend (given : Given) (kept entries : List Entry) : Type 0 where
  pub parts : All (λ (entry : Entry). is_part given.sources entry ≡ true) entries
  pub spent : ReadingSpends given kept entries ⊎ (2 ^ 62 < length (commits (kept ++ entries)) + 1)

-- no number is left behind these entries: for the events that a source gave, or for a batch
abbrev pub WorkSpends : Order → Given → List Entry → List Entry → Type 0
WorkSpends in_turn given kept entries = StepsSpend given kept given.sources entries ⊎ BatchSpends given kept entries
WorkSpends at_once given kept entries = PartsSpend given kept entries

-- At this moment a tick begins, the session is configured again where that is due, and then no number is left. Up to there the tick has these entries.
pub record TickSpends (order : Order) (given : Given) (kept : List Entry) (moment : ℕ) (entries : List Entry) : Type 0 where
  pub configured : List Entry
  pub rest : List Entry
  pub configures : ConfiguresAgain given (kept ++ Ticked moment ∷ []) moment configured
  pub spends : WorkSpends order given (kept ++ (Ticked moment ∷ configured)) rest
  pub are : entries ≡ (Ticked moment ∷ configured) ++ rest

-- That tick comes at this reading of the clock, behind ticks at those beats, and behind what the answers acknowledge that were polled behind them; before
-- its first tick a session opens.
abbrev pub SpendsAt : Order → Type 0 → Given → List Entry → List Beat → List (Option ℕ) → ℕ → List Entry → Type 0
SpendsAt order tells given kept [] polled reading entries =
    (opening own : List Entry) × Opens tells given kept reading opening × TickSpends order given (kept ++ opening) (max reading (moment_of (kept ++ opening))) own × (entries ≡ opening ++ own)
SpendsAt order tells given kept (before ∷ beats) polled reading entries =
    (own : List Entry) × TickSpends order given (kept ++ acks_of kept polled) (max reading (moment_of kept)) own × (entries ≡ acks_of kept polled ++ own)

-- The list has grown by the ticks at these beats, and at the next reading a number was spent: behind the list there would be these entries, up to the
-- place at which no number is left.
pub record RanOutOfNumbers (run : Run) (kept : List Entry) : Type 0 where
  pub beats : List Beat
  pub polled : List (Option ℕ)
  pub reading : ℕ
  pub read : run.has_read (readings_of beats ++ reading ∷ [])
  pub added : List Entry
  pub grows : Grows run.fixed kept beats added
  pub quiet : run.fixed.link.forwards ≡ false → polled ≡ []
  pub entries : List Entry
  pub legal : run.fixed.keeper_tells → Legal run.fixed.start → Legal (kept ++ entries)
  pub spends : run.fixed.keeper_tells → run.fixed.source_tells → Legal run.fixed.start → SpendsAt run.fixed.order run.fixed.source_tells run.fixed.given kept beats polled reading entries
