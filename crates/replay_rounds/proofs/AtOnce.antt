-- What sources give that take their steps at once, by the list.
use Rattle.std.proofs.Common.{◌≡◌, ℕ, ◌||◌, Bool, true, false, cond, List, [], ◌∷◌, ◌++◌, map, Option, Some, None, refl, sym, ap, ◌∙◌, subst}
use Rattle.std.specs.Prelude.{All, filter, unwrap_or}
use Rattle.std.specs.List.{AllZip, list_any}
use Rattle.std.proofs.lemmas.List.{append-nil}
use Rattle.std.proofs.lemmas.List.Elements.{All-cons, All-head, All-nil, All-tail, filter-append}
use Rattle.osq_value.specs.declared.reading.Category.{Category}
use Rattle.osq_value.specs.declared.reading.Reading.{Reading}
use Rattle.osq_value.specs.declared.reading.Reading.TheVariants.{Events, Table}
use Rattle.publisher_core.specs.Standing.{is_at_end}
use Rattle.entry_model.specs.Legal.{Follow, LegalNext}
use Rattle.entry_model.specs.Values.{last_of, moment_in, moment_of, taken_from, taken_in}
use Rattle.entry_model.specs.declared.entry.Batch.{Batch}
use Rattle.entry_model.specs.declared.entry.Entry.{Entry}
use Rattle.entry_model.specs.declared.entry.Entry.TheVariants.{Acked, Appended, Committed, Configured, Expired, Opened, TableSet, Ticked}
use Rattle.entry_model.proofs.Lasts.{last_of-append}
use Rattle.session_model.specs.Given.{Given, Source}
use Rattle.session_model.specs.Taking.{GivesStep, TakesStep, from_source, is_from}
use Rattle.session_model.specs.Working.{is_batch, is_part}
use Rattle.session_state.specs.Readings.{entry_of}
use Rattle.daemon_rounds.specs.Answering.{committed_all}
use Rattle.daemon_rounds.specs.Appending.{entries_of}
use Rattle.daemon_rounds.specs.AtOnce.{IsReadingOf, is_work}
use Rattle.daemon_rounds.specs.Turns.{IsTurn, Turn, turn_entries}
use Rattle.daemon_rounds.specs.declared.turning.Which.TheVariants as which
use Rattle.replay_rounds.specs.FullTicks.{AreFullParts}
use Rattle.replay_rounds.specs.Sources.{AreFed, IsFullStep}
use Rattle.replay_rounds.proofs.Feeds.{one_fed_on}
use Rattle.replay_rounds.proofs.Rounds.{IsPlain}
use Rattle.replay_rounds.proofs.Stepped.{feeds_of, full_step, nexts_of, objects_of, rests_of, step_given, turn_fed}

-- an entry of another source leaves how far this one is taken
taken_other : (name : List ℕ) (entry : Entry) → is_from name entry ≡ false → taken_in name entry ≡ None
taken_other name (Opened session rules) other = refl
taken_other name (Configured document schedule moment) other = refl
taken_other name (Ticked moment) other = refl
taken_other name (Appended source taken events skipped moment) other = ap (λ (t : Bool). cond t (Some taken) None) other
taken_other name (TableSet source table rows taken) other = ap (λ (t : Bool). cond t (Some taken) None) other
taken_other name (Expired table floor moment) other = refl
taken_other name (Committed batch) other = refl
taken_other name (Acked upto) other = refl

-- so how far it is taken depends on its own entries alone
last_taken : (name : List ℕ) (offset : ℕ) (more : List Entry) → last_of (taken_in name) offset more ≡ last_of (taken_in name) offset (from_source name more)
last_taken name offset [] = refl
last_taken name offset (entry ∷ more) = by (is_from name entry) refl (last_taken name offset more) (last_taken name (unwrap_or (taken_in name entry) offset) more)
  where
    by : (b : Bool) → is_from name entry ≡ b → last_of (taken_in name) offset more ≡ last_of (taken_in name) offset (from_source name more) → last_of (taken_in name) (unwrap_or (taken_in name entry) offset) more ≡ last_of (taken_in name) (unwrap_or (taken_in name entry) offset) (from_source name more)
        → last_of (taken_in name) (unwrap_or (taken_in name entry) offset) more ≡ last_of (taken_in name) offset (cond b (entry ∷ from_source name more) (from_source name more))
    by true is same later = later
    by false is same later = ap (λ (o : Option ℕ). last_of (taken_in name) (unwrap_or o offset) more) (taken_other name entry is) ∙ same

-- whatever the moment of an entry, it takes its source as far
taken_same : (name : List ℕ) (one other : ℕ) (reading : Reading) → taken_in name (entry_of name one reading) ≡ taken_in name (entry_of name other reading)
taken_same name one other (Events taken events skipped) = refl
taken_same name one other (Table taken table rows) = refl

readings_taken : (name : List ℕ) (moment offset : ℕ) (readings : List Reading) (entries : List Entry) → AllZip (IsReadingOf name) readings entries → last_of (taken_in name) offset entries ≡ last_of (taken_in name) offset (entries_of name moment readings)
readings_taken name moment offset [] [] zip = refl
readings_taken name moment offset [] (entry ∷ entries) zip = absurd zip
readings_taken name moment offset (reading ∷ readings) [] zip = absurd zip
readings_taken name moment offset (reading ∷ readings) (entry ∷ entries) ((at, is), zip) =
    ap (λ (o : Option ℕ). last_of (taken_in name) (unwrap_or o offset) entries) (ap (taken_in name) is ∙ taken_same name at moment reading)
    ∙ readings_taken name moment (unwrap_or (taken_in name (entry_of name moment reading)) offset) readings entries zip

-- a list with these entries has the source as far as with its readings alone
pub body_taken : (now body : List Entry) (name : List ℕ) (moment : ℕ) (readings : List Reading) → AllZip (IsReadingOf name) readings (from_source name body) → taken_from (now ++ body) name ≡ taken_from (now ++ entries_of name moment readings) name
body_taken now body name moment readings zip =
    last_of-append (taken_in name) 0 now body ∙ last_taken name (taken_from now name) body ∙ readings_taken name moment (taken_from now name) readings (from_source name body) zip
    ∙ sym (last_of-append (taken_in name) 0 now (entries_of name moment readings))

-- the entry has this moment, where it has one
abbrev pub IsAt : ℕ → Entry → Type 0
IsAt now (Appended source taken events skipped moment) = moment ≡ now
IsAt now _ = Unit {0}

next_at : (before : List Entry) (entry : Entry) (now : ℕ) → moment_of before ≡ now → LegalNext before entry → IsAt now entry
next_at before (Opened session rules) now at may = tt
next_at before (Configured document schedule moment) now at may = tt
next_at before (Ticked moment) now at may = tt
next_at before (Appended source taken events skipped moment) now at may = may.1 ∙ at
next_at before (TableSet source table rows taken) now at may = tt
next_at before (Expired table floor moment) now at may = tt
next_at before (Committed batch) now at may = tt
next_at before (Acked upto) now at may = tt

-- in a legal list each reading has the present moment
pub all_at : (before more : List Entry) (now : ℕ) → moment_of before ≡ now → All IsPlain more → Follow before more → All (IsAt now) more
all_at before [] now at plain follow = All-nil (IsAt now)
all_at before (entry ∷ more) now at plain follow =
    let here = All-head IsPlain entry more plain in
    let next : moment_of (before ++ entry ∷ []) ≡ now = last_of-append moment_in 0 before (entry ∷ []) ∙ ap (λ (o : Option ℕ). unwrap_or o (moment_of before)) here.moment ∙ at in
    All-cons (IsAt now) entry more (next_at before entry now at follow.0) (all_at (before ++ entry ∷ []) more now next (All-tail IsPlain entry more plain) follow.1)

entry_at : (name : List ℕ) (now moment : ℕ) (reading : Reading) → IsAt now (entry_of name moment reading) → entry_of name moment reading ≡ entry_of name now reading
entry_at name now moment (Events taken events skipped) at = ap (Appended name taken events skipped) at
entry_at name now moment (Table taken table rows) at = refl

readings_at : (name : List ℕ) (now : ℕ) (readings : List Reading) (entries : List Entry) → AllZip (IsReadingOf name) readings entries → All (IsAt now) entries → entries ≡ entries_of name now readings
readings_at name now [] [] zip at = refl
readings_at name now [] (entry ∷ entries) zip at = absurd zip
readings_at name now (reading ∷ readings) [] zip at = absurd zip
readings_at name now (reading ∷ readings) (entry ∷ entries) ((moment, is), zip) at =
    let here = subst (IsAt now) is (All-head (IsAt now) entry entries at) in
    ap (λ (e : Entry). e ∷ entries) (is ∙ entry_at name now moment reading here) ∙ ap (λ (es : List Entry). entry_of name now reading ∷ es) (readings_at name now readings entries zip (All-tail (IsAt now) entry entries at))

kept_at : (now : ℕ) (test : Entry → Bool) (entries : List Entry) → All (IsAt now) entries → All (IsAt now) (filter test entries)
kept_at now test [] at = All-nil (IsAt now)
kept_at now test (entry ∷ entries) at = by (test entry) (kept_at now test entries (All-tail (IsAt now) entry entries at))
  where
    by : (b : Bool) → All (IsAt now) (filter test entries) → All (IsAt now) (cond b (entry ∷ filter test entries) (filter test entries))
    by true rest = All-cons (IsAt now) entry (filter test entries) (All-head (IsAt now) entry entries at) rest
    by false rest = rest

-- batches are of no source
pub batches_behind : (name : List ℕ) (body : List Entry) (batches : List Batch) → from_source name (body ++ committed_all batches) ≡ from_source name body
batches_behind name body batches =
    filter-append (is_from name) body (committed_all batches) ∙ ap (λ (es : List Entry). from_source name body ++ es) (none batches) ∙ append-nil (from_source name body)
  where
    none : (batches : List Batch) → from_source name (committed_all batches) ≡ []
    none [] = refl
    none (batch ∷ batches) = none batches

-- what is asked of a source by its feed's name, is so by its own
abbrev Own : {S : Type 0} → List Entry → Turn S → Type 0
Own body turn = AllZip (IsReadingOf turn.feed.name) turn.readings (from_source turn.feed.name body)

module _ {S : Type 0} (tells : Type 0) (left : S → List ℕ) (faults : S → ℕ) (start now body : List Entry) (moment : ℕ) where
  -- behind them each source is taken as far as its feed is
  pub body_fed : (paths : List Category) (most : ℕ) (sources : List Source) (turns : List (Turn S)) → All (IsTurn tells left faults which.Every most) turns → All (Own body) turns → AreFed tells left paths start now sources (feeds_of turns) (objects_of turns) → AreFed tells left paths start (now ++ body) sources (nexts_of turns) (rests_of turns)
  body_fed paths most [] [] each own are = tt
  body_fed paths most [] (turn ∷ turns) each own are = absurd are
  body_fed paths most (source ∷ sources) [] each own are = absurd are
  body_fed paths most (source ∷ sources) (turn ∷ turns) each own are =
      let same = ap (taken_from (now ++ body)) (sym are.0.name) ∙ body_taken now body turn.feed.name moment turn.readings (All-head (Own body) turn turns own) ∙ ap (taken_from (now ++ turn_entries moment turn)) are.0.name in (
        one_fed_on tells left paths start (now ++ turn_entries moment turn) (now ++ body) source turn.next turn.rest same (turn_fed tells left faults which.Every start most paths now moment source turn (All-head (IsTurn tells left faults which.Every most) turn turns each) are.0),
        body_fed paths most sources turns (All-tail (IsTurn tells left faults which.Every most) turn turns each) (All-tail (Own body) turn turns own) are.1,
      )

  -- the entries of one source are those of its readings at this moment
  own_at : (source : Source) (turn : Turn S) → turn.feed.name ≡ source.name → All (IsAt moment) body → Own body turn → turn_entries moment turn ≡ from_source source.name body
  own_at source turn named at own =
      sym (readings_at turn.feed.name moment turn.readings (from_source turn.feed.name body) own (kept_at moment (is_from turn.feed.name) body at)) ∙ ap (λ (name : List ℕ). from_source name body) named

  module _ (given : Given) (is : moment ≡ moment_of now) (at : All (IsAt moment) body) where
    -- each source gave a step behind the list before them
    pub body_given : (sources : List Source) (turns : List (Turn S)) → All (IsTurn tells left faults which.Every given.records) turns → All (Own body) turns → AreFed tells left given.config.categories start now sources (feeds_of turns) (objects_of turns) → All (λ (source : Source). GivesStep tells given now source (from_source source.name body)) sources
    body_given [] [] each own are = All-nil (λ (source : Source). GivesStep tells given now source (from_source source.name body))
    body_given [] (turn ∷ turns) each own are = absurd are
    body_given (source ∷ sources) [] each own are = absurd are
    body_given (source ∷ sources) (turn ∷ turns) each own are =
        All-cons (λ (source : Source). GivesStep tells given now source (from_source source.name body)) source sources
        (subst (GivesStep tells given now source) (own_at source turn are.0.name at (All-head (Own body) turn turns own)) (step_given tells left start now given source turn.feed turn.next turn.source turn.rest turn.readings are.0 (All-head (IsTurn tells left faults which.Every given.records) turn turns each).plays moment is))
        (body_given sources turns (All-tail (IsTurn tells left faults which.Every given.records) turn turns each) (All-tail (Own body) turn turns own) are.1)

    -- where they tell their bytes, those that aren't at their end gave full steps
    pub body_full : tells → (sources : List Source) (turns : List (Turn S)) → All (IsTurn tells left faults which.Every given.records) turns → All (Own body) turns → AreFed tells left given.config.categories start now sources (feeds_of turns) (objects_of turns) → AreFullParts given now body sources (nexts_of turns)
    body_full told [] [] each own are = tt
    body_full told [] (turn ∷ turns) each own are = absurd are
    body_full told (source ∷ sources) [] each own are = absurd are
    body_full told (source ∷ sources) (turn ∷ turns) each own are = (
      subst (λ (entries : List Entry). (step : TakesStep given now source entries) × (is_at_end turn.next.reader ≡ false → IsFullStep given now source entries step)) (own_at source turn are.0.name at (All-head (Own body) turn turns own))
          (full_step tells left start now given source turn.feed turn.next turn.source turn.rest turn.readings are.0 (All-head (IsTurn tells left faults which.Every given.records) turn turns each).plays moment told is),
      body_full told sources turns (All-tail (IsTurn tells left faults which.Every given.records) turn turns each) (All-tail (Own body) turn turns own) are.1,
    )

-- an entry of a round is a part of a tick's body
any_mapped : (entry : Entry) (sources : List Source) → list_any (λ (name : List ℕ). is_from name entry) (map (λ (source : Source). source.name) sources) ≡ list_any (λ (source : Source). is_from source.name entry) sources
any_mapped entry [] = refl
any_mapped entry (source ∷ sources) = ap (λ (b : Bool). is_from source.name entry || b) (any_mapped entry sources)

pub work_part : (names : List (List ℕ)) (sources : List Source) → names ≡ map (λ (source : Source). source.name) sources → (entry : Entry) → is_work names entry ≡ true → is_part sources entry ≡ true
work_part names sources same entry is =
    sym (ap (λ (b : Bool). is_batch entry || b) (ap (list_any (λ (name : List ℕ). is_from name entry)) same ∙ any_mapped entry sources)) ∙ is

pub batches_work : (names : List (List ℕ)) (batches : List Batch) → All (λ (entry : Entry). is_work names entry ≡ true) (committed_all batches)
batches_work names [] = All-nil (λ (entry : Entry). is_work names entry ≡ true)
batches_work names (batch ∷ batches) =
    All-cons (λ (entry : Entry). is_work names entry ≡ true) (Committed batch) (committed_all batches) refl (batches_work names batches)
