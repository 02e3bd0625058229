-- Ticks in which sources gave full steps.
use Rattle.std.specs.Prelude.{◌≡◌, ℕ, false, Contains, List, [], ◌∷◌, ◌++◌}
use Rattle.publisher_core.specs.Standing.{is_at_end}
use Rattle.source_feeds.specs.Feeding.{Feeding}
use Rattle.entry_model.specs.declared.entry.Entry.{Entry}
use Rattle.entry_model.specs.declared.entry.Entry.TheVariants.{Ticked}
use Rattle.session_model.specs.Given.{Given, Source}
use Rattle.session_model.specs.Orders.{Order, in_turn, at_once}
use Rattle.session_model.specs.Taking.{TakesStep, from_source}
use Rattle.session_model.specs.Ticking.{Ticks}
use Rattle.session_model.specs.Working.{Passes}
use Rattle.replay_rounds.specs.Sources.{AreFullSteps, HasFullStep, IsFullStep}

-- of each of these sources the entries among these are one step behind this list, and that of one that isn't at its end is full
abbrev pub AreFullParts : Given → List Entry → List Entry → List Source → List Feeding → Type 0
AreFullParts given kept body [] [] = Unit {0}
AreFullParts given kept body (source ∷ sources) (feed ∷ feeds) =
    ((step : TakesStep given kept source (from_source source.name body)) × (is_at_end feed.reader ≡ false → IsFullStep given kept source (from_source source.name body) step)) × AreFullParts given kept body sources feeds
AreFullParts given kept body _ _ = ⊥

-- a tick at this moment, in which each source that isn't at its end gave a full step behind the list: up to its own place where the sources come in
-- turn, and else up to the tick's configuration
abbrev pub IsFullTick : Order → Type 0 → Given → List Entry → ℕ → List Feeding → List Entry → Type 0
IsFullTick in_turn tells given kept moment feeds entries =
    (tick : Ticks tells given kept moment entries) × AreFullSteps given (kept ++ (Ticked moment ∷ tick.configured)) given.sources feeds tick.taken
IsFullTick at_once tells given kept moment feeds entries =
    (tick : Passes tells given kept moment entries) × AreFullParts given (kept ++ (Ticked moment ∷ tick.configured)) tick.body given.sources feeds

-- of one of these sources, which is such a one, the entries among these are a full step behind this list
abbrev pub HasFullPart : (Source → Type 0) → Given → List Entry → List Source → List Entry → Type 0
HasFullPart Is given kept sources body =
    (source : Source) × Contains sources source × Is source × ((step : TakesStep given kept source (from_source source.name body)) × IsFullStep given kept source (from_source source.name body) step)

-- a tick at this moment, in which some source that is such a one gave a full step
abbrev pub HasFullTick : Order → (Source → Type 0) → Type 0 → Given → List Entry → ℕ → List Entry → Type 0
HasFullTick in_turn Is tells given kept moment entries =
    (tick : Ticks tells given kept moment entries) × HasFullStep Is given (kept ++ (Ticked moment ∷ tick.configured)) given.sources tick.taken
HasFullTick at_once Is tells given kept moment entries =
    (tick : Passes tells given kept moment entries) × HasFullPart Is given (kept ++ (Ticked moment ∷ tick.configured)) given.sources tick.body
