-- What a run of a session leaves.
use Rattle.std.specs.Prelude.{◌≡◌, ℕ, ◌≤◌, true, false, All, Option, None, List, [], ◌∷◌, ◌++◌, length, take}
use Rattle.osq_outside.specs.declared.clock.Clock as clock_trait
use Rattle.osq_outside.specs.declared.sink.Sink as sink_trait
use Rattle.osq_outside.specs.declared.source.Source as source_trait
use Rattle.batch_forwarder.specs.declared.link.Link as link_trait
use Rattle.batch_keeper.specs.declared.keeper.Keeper as keeper_trait
use Rattle.forward_rounds.specs.Forwarding.{View}
use Rattle.entry_model.specs.Covered.{Covered}
use Rattle.entry_model.specs.declared.entry.Entry.{Entry}
use Rattle.entry_model.specs.Legal.{Legal}
use Rattle.entry_model.specs.Values.{acked_upto, commits, last_number, taken_from}
use Rattle.entry_model.specs.Views.{due_queries, is_evented_table, owed_floor}
use Rattle.pack_rules.specs.declared.schedule.Form.TheVariants as form
use Rattle.session_model.specs.Given.{Given, Source}
use Rattle.session_model.specs.Orders.{Order}
use Rattle.session_model.specs.Sessions.{Beat, IsSession}
use Rattle.session_model.specs.Taking.{IsReadWhole}
use Rattle.session_model.specs.Working.{acks_of}
use Rattle.daemon_rounds.specs.Telling.{AreLinesOf}
use Rattle.replay_rounds.specs.Fixed.{Fixed, Run, fixed_of}
use Rattle.replay_rounds.specs.FullTicks.{HasFullTick}
use Rattle.replay_rounds.specs.Linking.{HasForwarded, Heard, readings_of}
use Rattle.replay_rounds.specs.OneTick.{HasOneTick}
use Rattle.replay_rounds.specs.Sources.{IsUnended}
use Rattle.replay_rounds.specs.declared.basis.Basis.{Basis}
use Rattle.replay_rounds.specs.declared.running.Ended.{Ended}

-- the clock was read for each of these readings, one after another
abbrev pub ReadsAll : {C : Type 0} → (C → ℕ → C → Type 0) → C → List ℕ → C → Type 0
ReadsAll reads before [] after = after ≡ before
ReadsAll reads before (reading ∷ rest) after = (between : _) × reads before reading between × ReadsAll reads between rest after

-- the run in which this stays the same, and in which the clock came from one state to another
abbrev pub run_by : {C : Type 0} → Fixed → (C → ℕ → C → Type 0) → C → C → Run
run_by x reads clock now = record { fixed = x; has_read = λ readings. ReadsAll reads clock readings now }

-- the run of a session over these objects
abbrev pub run_of : {K O S L C : Type 0} → Order → keeper_trait.Ghosts K → sink_trait.Ghosts O → source_trait.Ghosts S → link_trait.Ghosts L → clock_trait.Ghosts C → Basis → List S → K → O → L → C → C → Run
run_of order keeper sink source link clock basis objects before results answers first last =
    run_by (fixed_of order keeper sink source link basis objects before results answers) clock.reads first last

-- what a run adds at these beats: nothing before the first of them, and else a session; `tells` says whether the sources tell their bytes
abbrev pub AddsAt : Order → Type 0 → Given → List Entry → List Beat → List Entry → Type 0
AddsAt order tells given kept [] entries = entries ≡ []
AddsAt order tells given kept (beat ∷ beats) entries = IsSession order tells given kept beat beats entries

-- The list has grown by these entries, which are what a run adds at these beats, whether or not the sources tell: so it is legal, and has a whole
-- tick for each of the beats. What it acknowledges was polled.
pub record Grows (x : Fixed) (kept : List Entry) (beats : List Beat) (entries : List Entry) : Type 0 where
  pub grown : x.keeper_tells → kept ≡ x.start ++ entries
  pub adds : x.keeper_tells → Legal x.start → AddsAt x.order x.source_tells x.given x.start beats entries
  pub heard : x.keeper_tells → Legal x.start → Heard x beats

-- However a run ends, the kept list has grown by a session at the readings of the clock, which may have been read once more.
pub record IsKept (run : Run) (kept : List Entry) : Type 0 where
  pub beats : List Beat
  pub more : List ℕ
  pub entries : List Entry
  pub read : run.has_read (readings_of beats ++ more)
  pub few : length more ≤ 1
  pub grows : Grows run.fixed kept beats entries

-- However it ends, the results have grown by all lines of the entries by which the list has grown up to its last tick, and maybe of that tick too, and
-- behind them by a front part of the lines of that tick.
pub record IsWritten (x : Fixed) (kept : List Entry) (written : List ℕ) : Type 0 where
  pub whole : List Entry
  pub part : List Entry
  pub kept_are : x.keeper_tells → (rest : List Entry) × HasOneTick (part ++ rest) × (kept ≡ x.start ++ (whole ++ (part ++ rest)))
  pub lines : List ℕ
  pub told : AreLinesOf x.given.host.identifier form.Event whole lines
  pub more : List ℕ
  pub told_more : AreLinesOf x.given.host.identifier form.Event (whole ++ part) (lines ++ more)
  pub count : ℕ
  pub written_is : written ≡ (x.written ++ lines) ++ take count more

-- The list ends with a tick, its last, and what was acknowledged behind it. In that tick some source that isn't at its end gave a full step, as it did in
-- each of these ticks.
pub record HasMore (x : Fixed) (ticks : ℕ) (kept : List Entry) : Type 0 where
  pub before : List Entry
  pub moment : ℕ
  pub last : List Entry
  pub polled : List (Option ℕ)
  pub are : kept ≡ before ++ (last ++ acks_of (before ++ last) polled)
  pub full : HasFullTick x.order (IsUnended x.source_tells x.given.config.categories x.given.records ticks x.start kept) x.source_tells x.given before moment last

-- All ticks were run: the list has grown by a session of as many, and the results by its lines; nothing is due, and nothing is to expire. Behind each tick
-- it forwarded, and left its link so. Each source had the bytes that earlier sessions took of it, and either every source was read to behind its last
-- line feed, or one of them had more in the last tick.
pub record HasRun (run : Run) (ticks : ℕ) (kept : List Entry) (written : List ℕ) (linked : View) (ended : Ended) : Type 0 where
  pub beats : List Beat
  pub entries : List Entry
  pub read : run.has_read (readings_of beats)
  pub count : length beats ≡ ticks
  pub grows : Grows run.fixed kept beats entries
  pub forwarded : run.fixed.keeper_tells → Legal run.fixed.start → HasForwarded run.fixed beats entries linked
  pub told : run.fixed.sink_tells → (lines : List ℕ) × AreLinesOf run.fixed.given.host.identifier form.Event entries lines × (written ≡ run.fixed.written ++ lines)
  pub covered : run.fixed.keeper_tells → Legal run.fixed.start → Covered kept
  pub answered : run.fixed.keeper_tells → Legal run.fixed.start → due_queries kept ≡ []
  pub settled : run.fixed.keeper_tells → Legal run.fixed.start → (table : ℕ) → is_evented_table table ≡ true → owed_floor kept table ≡ None
  pub events : run.fixed.keeper_tells → Legal run.fixed.start → ended.numbers.events ≡ last_number kept
  pub batches : run.fixed.keeper_tells → Legal run.fixed.start → ended.numbers.batches ≡ length (commits kept)
  pub acknowledged : run.fixed.keeper_tells → Legal run.fixed.start → ended.numbers.acknowledged ≡ acked_upto kept
  pub present : run.fixed.keeper_tells → run.fixed.source_tells → All (λ (source : Source). taken_from run.fixed.start source.name ≤ length source.bytes) run.fixed.given.sources
  pub whole : run.fixed.keeper_tells → run.fixed.source_tells → Legal run.fixed.start → ended.is_end ≡ true → All (IsReadWhole run.fixed.start kept) run.fixed.given.sources
  pub more : run.fixed.keeper_tells → run.fixed.source_tells → Legal run.fixed.start → ended.is_end ≡ false → HasMore run.fixed ticks kept
