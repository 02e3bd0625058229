-- A round takes the steps that the model of sessions defines.
use Rattle.std.proofs.Common.{◌≡◌, ℕ, Bool, true, false, cond, List, [], ◌∷◌, ◌++◌, length, map, inl, inr, refl, sym, ap, ◌∙◌, subst, append_assoc}
use Rattle.std.specs.Prelude.{◌⊎◌, ◌≤◌, All, bytes_eq, drop, filter}
use Rattle.std.proofs.lemmas.List.{append-nil}
use Rattle.std.proofs.lemmas.List.Elements.{All-head, All-tail, filter_agree}
use Rattle.osq_value.specs.declared.reading.Category.{Category}
use Rattle.osq_value.specs.declared.reading.Reading.{Reading}
use Rattle.publisher_core.specs.declared.record.ReadRecord.{ReadRecord}
use Rattle.osq_value.specs.declared.source.SourceKind.{SourceKind}
use Rattle.osq_value.specs.declared.source.SourceKind.TheVariants as kind
use Rattle.publisher_core.specs.Readings.{readings_of}
use Rattle.publisher_core.specs.Standing.{is_at_end}
use Rattle.record_lines.specs.Limits.{STEP_BYTES}
use Rattle.source_feeds.specs.Feeding.{Feeding}
use Rattle.source_feeds.specs.Joining.{Rise}
use Rattle.source_feeds.specs.Stepping.{IsStep}
use Rattle.source_feeds.specs.Taking.{IsBehindLastFeed, Takes}
use Rattle.entry_model.specs.declared.entry.Entry.{Entry}
use Rattle.entry_model.specs.Fits.{IsDistinct}
use Rattle.entry_model.specs.Values.{moment_of, taken_from}
use Rattle.session_state.specs.Readings.{entry_of}
use Rattle.session_model.specs.Given.{Given, Source}
use Rattle.session_model.specs.Taking.{GivesStep, GivesSteps, TakesStep, TakesSteps}
use Rattle.session_model.specs.Sessions.{is_tables}
use Rattle.daemon_rounds.specs.Appending.{entries_of}
use Rattle.daemon_rounds.specs.Turns.{Gave, IsTurn, Plays, Turn, takes_part, turn_entries}
use Rattle.daemon_rounds.specs.Rounding.{Whole, names_of, round_entries}
use Rattle.daemon_rounds.specs.declared.turning.Which.{Which}
use Rattle.daemon_rounds.specs.declared.turning.Which.TheVariants as which
use Rattle.replay_rounds.specs.Sources.{AreFed, AreFullOrOver, AreFullSteps, IsFed, IsFullStep}
use Rattle.replay_rounds.proofs.Passed.{moment_behind, other_behind, others_behind, taken_behind}
use Rattle.replay_rounds.proofs.Feeds.{one_fed_on, others_fed_on}

abbrev pub feeds_of : {S : Type 0} → List (Turn S) → List Feeding
feeds_of {S} turns = map (λ (turn : Turn S). turn.feed) turns

abbrev pub nexts_of : {S : Type 0} → List (Turn S) → List Feeding
nexts_of {S} turns = map (λ (turn : Turn S). turn.next) turns

abbrev pub objects_of : {S : Type 0} → List (Turn S) → List S
objects_of {S} turns = map (λ (turn : Turn S). turn.source) turns

abbrev pub rests_of : {S : Type 0} → List (Turn S) → List S
rests_of {S} turns = map (λ (turn : Turn S). turn.rest) turns

-- what is taken of a source is so by whichever names its kind, its paths and its offset have
takes_as : (bytes : List ℕ) (most : ℕ) (pieces : List ReadRecord) (to : ℕ) {old new : SourceKind} {were paths : List Category} {before from : ℕ} → old ≡ new → were ≡ paths → before ≡ from → Takes old were before (drop before bytes) most pieces to → Takes new paths from (drop from bytes) most pieces to
takes_as bytes most pieces to {old} {new} {were} {paths} {before} {from} kinds same places takes =
    subst (λ (from : ℕ). Takes new paths from (drop from bytes) most pieces to) places (subst (λ (paths : List Category). Takes new paths before (drop before bytes) most pieces to) same (subst (λ (kind : SourceKind). Takes kind were before (drop before bytes) most pieces to) kinds takes))

-- a source behind the list `now`, whose feed took a step
module _ {S : Type 0} (tells : Type 0) (left : S → List ℕ) (paths : List Category) (start now : List Entry) (source : Source) (feed next : Feeding) (object rest : S) (most : ℕ) (readings : List Reading) (is : IsFed tells left paths start now source feed object) (gave : Gave tells (left object) (left rest) feed next most readings) where
  step : IsStep tells source.bytes (left object) (left rest) feed next (taken_from start source.name) is.pieces most readings
  step = gave.steps source.bytes (taken_from start source.name) is.pieces is.fed

  -- the step goes up to where the list with its entries has the source
  reached : (moment : ℕ) → taken_from (now ++ entries_of feed.name moment readings) source.name ≡ next.reader.taken
  reached moment =
      ap (taken_from (now ++ entries_of feed.name moment readings)) (sym is.name) ∙ taken_behind now feed.name moment next.reader.taken readings (subst (λ (offset : ℕ). Rise offset readings next.reader.taken) (is.place ∙ ap (taken_from now) (sym is.name)) gave.rise)

  fed_behind : (moment : ℕ) → IsFed tells left paths start (now ++ entries_of feed.name moment readings) source next rest
  fed_behind moment = record {
    name = gave.same.name ∙ is.name;
    kind = gave.same.kind ∙ is.kind;
    paths_are = gave.same.paths ∙ is.paths_are;
    place = sym (reached moment);
    pieces = is.pieces ++ step.pieces;
    fed = step.fed;
    over = λ told ended. subst (IsBehindLastFeed (taken_from start source.name) source.bytes) (sym (reached moment)) (step.over told ended).place;
  }

  entries_are : (moment : ℕ) → moment ≡ moment_of now → entries_of feed.name moment readings ≡ map (entry_of source.name (moment_of now)) (readings_of source.kind step.pieces)
  entries_are moment at =
      ap (λ (readings : List Reading). entries_of feed.name moment readings) (step.read ∙ ap (λ (kind : SourceKind). readings_of kind step.pieces) is.kind) ∙ ap (λ (name : List ℕ). entries_of name moment (readings_of source.kind step.pieces)) is.name ∙ ap (λ (moment : ℕ). entries_of source.name moment (readings_of source.kind step.pieces)) at

-- the step that its feed took
pub step_given : {S : Type 0} (tells : Type 0) (left : S → List ℕ) (start now : List Entry) (given : Given) (source : Source) (feed next : Feeding) (object rest : S) (readings : List Reading) (is : IsFed tells left given.config.categories start now source feed object) (gave : Gave tells (left object) (left rest) feed next given.records readings) (moment : ℕ) → moment ≡ moment_of now → GivesStep tells given now source (entries_of feed.name moment readings)
step_given tells left start now given source feed next object rest readings is gave moment at =
    let of_feed = step tells left given.config.categories start now source feed next object rest given.records readings is gave in
    record {
      pieces = of_feed.pieces;
      to = next.reader.taken;
      few = of_feed.few;
      takes = λ told. takes_as source.bytes given.records of_feed.pieces next.reader.taken is.kind is.paths_are is.place (of_feed.takes told);
      are = entries_are tells left given.config.categories start now source feed next object rest given.records readings is gave moment at;
    }

step_told : (tells : Type 0) → tells → (given : Given) (kept : List Entry) (source : Source) (entries : List Entry) → GivesStep tells given kept source entries → TakesStep given kept source entries
step_told tells told given kept source entries step =
    record { pieces = step.pieces; to = step.to; few = step.few; takes = λ always. step.takes told; are = step.are }

steps_told : (tells : Type 0) → tells → (given : Given) (kept : List Entry) (sources : List Source) (entries : List Entry) → GivesSteps tells given kept sources entries → TakesSteps given kept sources entries
steps_told tells told given kept [] entries none = none
steps_told tells told given kept (source ∷ sources) entries (own, others, step, steps, are) =
    (own, others, step_told tells told given kept source own step, steps_told tells told given (kept ++ own) sources others steps, are)

-- of a source that tells its bytes
pub step_taken : {S : Type 0} (tells : Type 0) (left : S → List ℕ) (start now : List Entry) (given : Given) (source : Source) (feed next : Feeding) (object rest : S) (readings : List Reading) (is : IsFed tells left given.config.categories start now source feed object) (gave : Gave tells (left object) (left rest) feed next given.records readings) (moment : ℕ) → tells → moment ≡ moment_of now → TakesStep given now source (entries_of feed.name moment readings)
step_taken tells left start now given source feed next object rest readings is gave moment told at =
    step_told tells told given now source (entries_of feed.name moment readings) (step_given tells left start now given source feed next object rest readings is gave moment at)

-- where its feed isn't at the source's end, it was full
pub full_step : {S : Type 0} (tells : Type 0) (left : S → List ℕ) (start now : List Entry) (given : Given) (source : Source) (feed next : Feeding) (object rest : S) (readings : List Reading) (is : IsFed tells left given.config.categories start now source feed object) (gave : Gave tells (left object) (left rest) feed next given.records readings) (moment : ℕ) → tells → moment ≡ moment_of now
    → (own : TakesStep given now source (entries_of feed.name moment readings)) × (is_at_end next.reader ≡ false → IsFullStep given now source (entries_of feed.name moment readings) own)
unfolding step_taken step_told step_given
full_step tells left start now given source feed next object rest readings is gave moment told at =
    (step_taken tells left start now given source feed next object rest readings is gave moment told at, λ open_still. by_size (of_feed.still told open_still))
  where
    of_feed : IsStep tells source.bytes (left object) (left rest) feed next (taken_from start source.name) is.pieces given.records readings
    of_feed = step tells left given.config.categories start now source feed next object rest given.records readings is gave

    by_size : (length of_feed.pieces ≡ given.records) ⊎ (STEP_BYTES ≤ length (drop feed.reader.taken source.bytes)) → (STEP_BYTES ≤ length (drop (taken_from now source.name) source.bytes)) ⊎ (length of_feed.pieces ≡ given.records)
    by_size (inl most) = inr most
    by_size (inr many) = inl (subst (λ (from : ℕ). STEP_BYTES ≤ length (drop from source.bytes)) is.place many)

-- a turn of a source is that of a feed of it, whether it took a step or none
module _ {S : Type 0} (tells : Type 0) (left : S → List ℕ) (faults : S → ℕ) (which : Which) (start : List Entry) (most : ℕ) where
  pub turn_fed : (paths : List Category) (now : List Entry) (moment : ℕ) (source : Source) (turn : Turn S) → IsTurn tells left faults which most turn → IsFed tells left paths start now source turn.feed turn.source → IsFed tells left paths start (now ++ turn_entries moment turn) source turn.next turn.rest
  turn_fed paths now moment source turn is fed = by_part (takes_part which turn.feed.kind) is.plays
    where
      by_part : (part : Bool) → Plays tells left most part turn → IsFed tells left paths start (now ++ turn_entries moment turn) source turn.next turn.rest
      by_part true gave =
          fed_behind tells left paths start now source turn.feed turn.next turn.source turn.rest most turn.readings fed gave moment
      by_part false idle =
          one_fed_on tells left paths start now (now ++ turn_entries moment turn) source turn.next turn.rest (ap (λ (readings : List Reading). taken_from (now ++ entries_of turn.feed.name moment readings) source.name) idle.none ∙ ap (λ (entries : List Entry). taken_from entries source.name) (append-nil now)) (subst (λ (object : S). IsFed tells left paths start now source turn.next object) (sym idle.source) (subst (λ (feed : Feeding). IsFed tells left paths start now source feed turn.source) (sym idle.feed) fed))

  -- one turn of each source, one source after another
  module _ (paths : List Category) (moment : ℕ) where
    -- the other sources wait
    others_wait : (now : List Entry) (turn : Turn S) (turns : List (Turn S)) (sources : List Source) → IsDistinct bytes_eq (names_of (feeds_of (turn ∷ turns))) → AreFed tells left paths start now sources (feeds_of turns) (objects_of turns) → AreFed tells left paths start (now ++ turn_entries moment turn) sources (feeds_of turns) (objects_of turns)
    others_wait now turn turns sources distinct are =
        others_fed_on tells left paths start now (now ++ turn_entries moment turn) turn.feed.name sources (feeds_of turns) (objects_of turns) (λ other differs. other_behind now turn.feed.name other moment turn.readings differs) distinct.0 are

    round_fed : (now : List Entry) (sources : List Source) (turns : List (Turn S)) → IsDistinct bytes_eq (names_of (feeds_of turns)) → All (IsTurn tells left faults which most) turns → AreFed tells left paths start now sources (feeds_of turns) (objects_of turns) → AreFed tells left paths start (now ++ round_entries moment turns) sources (nexts_of turns) (rests_of turns)
    round_fed now [] [] distinct each are = tt
    round_fed now [] (turn ∷ turns) distinct each are = absurd are
    round_fed now (source ∷ sources) [] distinct each are = absurd are
    round_fed now (source ∷ sources) (turn ∷ turns) distinct each are =
        let more = append_assoc now (turn_entries moment turn) (round_entries moment turns) in
        let first = one_fed_on tells left paths start (now ++ turn_entries moment turn) ((now ++ turn_entries moment turn) ++ round_entries moment turns) source turn.next turn.rest (ap (taken_from ((now ++ turn_entries moment turn) ++ round_entries moment turns)) (sym are.0.name) ∙ others_behind (now ++ turn_entries moment turn) turn.feed.name moment turns distinct.0 ∙ ap (taken_from (now ++ turn_entries moment turn)) are.0.name) (turn_fed paths now moment source turn (All-head (IsTurn tells left faults which most) turn turns each) are.0) in
        let others = round_fed (now ++ turn_entries moment turn) sources turns distinct.1 (All-tail (IsTurn tells left faults which most) turn turns each) (others_wait now turn turns sources distinct are.1) in
        subst (λ (later : List Entry). AreFed tells left paths start later (source ∷ sources) (nexts_of (turn ∷ turns)) (rests_of (turn ∷ turns))) more (first, others)

module _ {S : Type 0} (tells : Type 0) (left : S → List ℕ) (faults : S → ℕ) (start : List Entry) (given : Given) (moment : ℕ) where
  -- those that take part take a step each
  steps_given : (which : Which) (now : List Entry) (sources : List Source) (turns : List (Turn S)) → moment ≡ moment_of now → IsDistinct bytes_eq (names_of (feeds_of turns)) → All (IsTurn tells left faults which given.records) turns → AreFed tells left given.config.categories start now sources (feeds_of turns) (objects_of turns) → GivesSteps tells given now (filter (λ (source : Source). takes_part which source.kind) sources) (round_entries moment turns)
  steps_given which now [] [] at distinct each are = refl
  steps_given which now [] (turn ∷ turns) at distinct each are = absurd are
  steps_given which now (source ∷ sources) [] at distinct each are = absurd are
  steps_given which now (source ∷ sources) (turn ∷ turns) at distinct each are =
      by_part (takes_part which source.kind) (subst (λ (kind : SourceKind). Plays tells left given.records (takes_part which kind) turn) are.0.kind (All-head (IsTurn tells left faults which given.records) turn turns each).plays) (steps_given which (now ++ own) sources turns (at ∙ sym (moment_behind now turn.feed.name moment turn.readings)) distinct.1 (All-tail (IsTurn tells left faults which given.records) turn turns each) (others_wait tells left faults which start given.records given.config.categories moment now turn turns sources distinct are.1))
    where
      own : List Entry
      own = turn_entries moment turn

      others : List Entry
      others = round_entries moment turns

      rest : List Source
      rest = filter (λ (source : Source). takes_part which source.kind) sources

      by_part : (part : Bool) → Plays tells left given.records part turn → GivesSteps tells given (now ++ own) rest others → GivesSteps tells given now (cond part (source ∷ rest) rest) (own ++ others)
      by_part true gave behind =
          (own, others, step_given tells left start now given source turn.feed turn.next turn.source turn.rest turn.readings are.0 gave moment at, behind, refl)
      by_part false idle behind =
          let none = ap (λ (readings : List Reading). entries_of turn.feed.name moment readings) idle.none in
          subst (λ (entries : List Entry). GivesSteps tells given now rest (entries ++ others)) (sym none) (subst (λ (list : List Entry). GivesSteps tells given list rest others) (append-nil now) (subst (λ (entries : List Entry). GivesSteps tells given (now ++ entries) rest others) none behind))

  module _ (told : tells) where
    -- where each takes part, each gave a full step, or its feed is at its end
    full_steps : (now : List Entry) (sources : List Source) (turns : List (Turn S)) → moment ≡ moment_of now → IsDistinct bytes_eq (names_of (feeds_of turns)) → All (IsTurn tells left faults which.Every given.records) turns → AreFed tells left given.config.categories start now sources (feeds_of turns) (objects_of turns) → AreFullSteps given now sources (nexts_of turns) (round_entries moment turns)
    full_steps now [] [] at distinct each are = refl
    full_steps now [] (turn ∷ turns) at distinct each are = absurd are
    full_steps now (source ∷ sources) [] at distinct each are = absurd are
    full_steps now (source ∷ sources) (turn ∷ turns) at distinct each are =
        let here = full_step tells left start now given source turn.feed turn.next turn.source turn.rest turn.readings are.0 (All-head (IsTurn tells left faults which.Every given.records) turn turns each).plays moment told at in
        let behind = full_steps (now ++ turn_entries moment turn) sources turns (at ∙ sym (moment_behind now turn.feed.name moment turn.readings)) distinct.1 (All-tail (IsTurn tells left faults which.Every given.records) turn turns each) (others_wait tells left faults which.Every start given.records given.config.categories moment now turn turns sources distinct are.1) in
        (turn_entries moment turn, round_entries moment turns, (here.0, here.1, behind, refl))

    -- so it is behind the list before all of them
    steps_full : (kept : List Entry) (sources : List Source) (turns : List (Turn S)) → moment ≡ moment_of kept → All (IsTurn tells left faults which.Every given.records) turns → AreFed tells left given.config.categories start kept sources (feeds_of turns) (objects_of turns) → AreFullOrOver given kept sources (nexts_of turns)
    steps_full kept [] [] at each are = tt
    steps_full kept [] (turn ∷ turns) at each are = absurd are
    steps_full kept (source ∷ sources) [] at each are = absurd are
    steps_full kept (source ∷ sources) (turn ∷ turns) at each are =
        let here = full_step tells left start kept given source turn.feed turn.next turn.source turn.rest turn.readings are.0 (All-head (IsTurn tells left faults which.Every given.records) turn turns each).plays moment told at in
        (λ open_still. (turn_entries moment turn, (here.0, here.1 open_still)), steps_full kept sources turns at (All-tail (IsTurn tells left faults which.Every given.records) turn turns each) are.1)

pub every_source : (sources : List Source) → filter (λ (source : Source). takes_part which.Every source.kind) sources ≡ sources
every_source [] = refl
every_source (source ∷ sources) = ap (λ (rest : List Source). source ∷ rest) (every_source sources)

tables_alone : (kind : SourceKind) → takes_part which.Tables kind ≡ is_tables kind
tables_alone kind.Audit = refl
tables_alone kind.Changes = refl
tables_alone kind.Tables = refl

table_sources : (sources : List Source) → filter (λ (source : Source). takes_part which.Tables source.kind) sources ≡ filter (λ (source : Source). is_tables source.kind) sources
table_sources sources =
    filter_agree (λ (source : Source). takes_part which.Tables source.kind) (λ (source : Source). is_tables source.kind) (λ source. tables_alone source.kind) sources

module _ {S : Type 0} (tells : Type 0) (left : S → List ℕ) (faults : S → ℕ) (given : Given) (start kept : List Entry) (moment : ℕ) (feeds nexts : List Feeding) (objects rests : List S) (turns : List (Turn S)) where
  -- the feeds and the objects of a whole round are those of its turns
  pub of_turns : AreFed tells left given.config.categories start kept given.sources feeds objects → Whole feeds nexts objects rests turns → AreFed tells left given.config.categories start kept given.sources (feeds_of turns) (objects_of turns)
  of_turns are whole =
      subst (λ (objects : List S). AreFed tells left given.config.categories start kept given.sources (feeds_of turns) objects) whole.sources_are (subst (λ (feeds : List Feeding). AreFed tells left given.config.categories start kept given.sources feeds objects) whole.feeds_are are)

  distinct_of : IsDistinct bytes_eq (names_of feeds) → Whole feeds nexts objects rests turns → IsDistinct bytes_eq (names_of (feeds_of turns))
  distinct_of distinct whole =
      subst (λ (feeds : List Feeding). IsDistinct bytes_eq (names_of feeds)) whole.feeds_are distinct

  pub fed_after : (which : Which) → AreFed tells left given.config.categories start kept given.sources feeds objects → IsDistinct bytes_eq (names_of feeds) → Whole feeds nexts objects rests turns → All (IsTurn tells left faults which given.records) turns → AreFed tells left given.config.categories start (kept ++ round_entries moment turns) given.sources nexts rests
  fed_after which are distinct whole each =
      subst (λ (rests : List S). AreFed tells left given.config.categories start (kept ++ round_entries moment turns) given.sources nexts rests) (sym whole.rests_are) (subst (λ (nexts : List Feeding). AreFed tells left given.config.categories start (kept ++ round_entries moment turns) given.sources nexts (rests_of turns)) (sym whole.nexts_are) (round_fed tells left faults which start given.records given.config.categories moment kept given.sources turns (distinct_of distinct whole) each (of_turns are whole)))

  -- a round of all sources takes a step of each
  pub rounds_given : moment ≡ moment_of kept → AreFed tells left given.config.categories start kept given.sources feeds objects → IsDistinct bytes_eq (names_of feeds) → Whole feeds nexts objects rests turns → All (IsTurn tells left faults which.Every given.records) turns → GivesSteps tells given kept given.sources (round_entries moment turns)
  rounds_given at are distinct whole each =
      subst (λ (sources : List Source). GivesSteps tells given kept sources (round_entries moment turns)) (every_source given.sources) (steps_given tells left faults start given moment which.Every kept given.sources turns at (distinct_of distinct whole) each (of_turns are whole))

  -- where they tell their bytes, those that aren't at their end gave full steps
  pub rounds_full : tells → moment ≡ moment_of kept → AreFed tells left given.config.categories start kept given.sources feeds objects → IsDistinct bytes_eq (names_of feeds) → Whole feeds nexts objects rests turns → All (IsTurn tells left faults which.Every given.records) turns → AreFullSteps given kept given.sources nexts (round_entries moment turns)
  rounds_full told at are distinct whole each =
      subst (λ (nexts : List Feeding). AreFullSteps given kept given.sources nexts (round_entries moment turns)) (sym whole.nexts_are) (full_steps tells left faults start given moment told kept given.sources turns at (distinct_of distinct whole) each (of_turns are whole))

  pub rounds_taken : tells → moment ≡ moment_of kept → AreFed tells left given.config.categories start kept given.sources feeds objects → IsDistinct bytes_eq (names_of feeds) → Whole feeds nexts objects rests turns → All (IsTurn tells left faults which.Every given.records) turns → TakesSteps given kept given.sources (round_entries moment turns) × AreFed tells left given.config.categories start (kept ++ round_entries moment turns) given.sources nexts rests × AreFullOrOver given kept given.sources nexts
  rounds_taken told at are distinct whole each = (
    steps_told tells told given kept given.sources (round_entries moment turns) (rounds_given at are distinct whole each),
    fed_after which.Every are distinct whole each,
    subst (λ (nexts : List Feeding). AreFullOrOver given kept given.sources nexts) (sym whole.nexts_are) (steps_full tells left faults start given moment told kept given.sources turns at each (of_turns are whole)),
  )

  -- a round of the sources of tables takes a step of each of them
  pub tables_given : moment ≡ moment_of kept → AreFed tells left given.config.categories start kept given.sources feeds objects → IsDistinct bytes_eq (names_of feeds) → Whole feeds nexts objects rests turns → All (IsTurn tells left faults which.Tables given.records) turns → GivesSteps tells given kept (filter (λ (source : Source). is_tables source.kind) given.sources) (round_entries moment turns)
  tables_given at are distinct whole each =
      subst (λ (sources : List Source). GivesSteps tells given kept sources (round_entries moment turns)) (table_sources given.sources) (steps_given tells left faults start given moment which.Tables kept given.sources turns at (distinct_of distinct whole) each (of_turns are whole))
