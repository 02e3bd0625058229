-- A round in which a source gave too much takes steps up to one that spends the numbers.
use Rattle.std.proofs.Common.{◌≡◌, ℕ, ◌+◌, ◌<◌, Bool, true, false, cond, List, [], ◌∷◌, ◌++◌, length, map, Option, None, inl, inr, refl, sym, ap, ◌∙◌, subst, append_assoc, arith, length-append}
use Rattle.std.specs.Prelude.{◌^◌, All, bytes_eq, drop, filter}
use Rattle.std.specs.Option.{option_to_list}
use Rattle.std.proofs.lemmas.List.{append-nil, length-map, map-append}
use Rattle.std.proofs.lemmas.List.Elements.{All-cons, All-head, All-nil, All-tail}
use Rattle.osq_value.specs.declared.reading.Reading.{Reading}
use Rattle.osq_value.specs.declared.reading.Reading.TheVariants.{Events, Table}
use Rattle.osq_value.specs.declared.value.Event.{Event}
use Rattle.publisher_core.specs.declared.record.Gain.{Gain}
use Rattle.publisher_core.specs.declared.record.Gain.TheVariants as gain
use Rattle.publisher_core.specs.declared.record.ReadRecord.{ReadRecord}
use Rattle.osq_value.specs.declared.source.SourceKind.{SourceKind}
use Rattle.osq_value.specs.declared.source.SourceKind.TheVariants as kind
use Rattle.publisher_core.specs.Readings.{reading_of, readings_of}
use Rattle.publisher_core.specs.Records.{LinesGive, TableGives}
use Rattle.source_feeds.specs.Feeding.{Feeding}
use Rattle.source_feeds.specs.Taking.{Takes}
use Rattle.entry_model.specs.declared.entry.Entry.{Entry}
use Rattle.entry_model.specs.Fits.{IsDistinct}
use Rattle.entry_model.specs.Legal.{Legal}
use Rattle.entry_model.specs.Values.{events_in, last_number, moment_of, taken_from}
use Rattle.entry_model.proofs.Fitting.{fits}
use Rattle.session_model.specs.Given.{Given, Source}
use Rattle.session_model.specs.Taking.{TakesStep}
use Rattle.session_state.specs.Kept.{Counts, Kept}
use Rattle.session_state.specs.Readings.{entry_of, event_count}
use Rattle.session_state.specs.StateOf.{HasValues}
use Rattle.daemon_rounds.specs.Adding.{AddsEntries}
use Rattle.daemon_rounds.specs.Appending.{entries_of}
use Rattle.daemon_rounds.specs.Rounding.{Overflows, names_of, round_entries}
use Rattle.daemon_rounds.specs.Turns.{IsTurn, Plays, Turn, takes_part, turn_entries}
use Rattle.daemon_rounds.specs.declared.turning.Which.{Which}
use Rattle.daemon_rounds.specs.declared.turning.Which.TheVariants as which
use Rattle.daemon_rounds.proofs.Adding.{brings_then}
use Rattle.daemon_rounds.proofs.Fronts.{all_here}
use Rattle.daemon_rounds.proofs.Opened.{round_moment}
use Rattle.replay_rounds.specs.Sources.{AreFed}
use Rattle.replay_rounds.specs.Spent.{StepSpends, StepsSpend}
use Rattle.replay_rounds.proofs.Feeds.{others_fed_on}
use Rattle.replay_rounds.proofs.Passed.{moment_behind, other_behind}
use Rattle.replay_rounds.proofs.Stepped.{feeds_of, objects_of, step_taken}

-- the entry of a reading has its events
pub count_is : (name : List ℕ) (moment : ℕ) (reading : Reading) → event_count reading ≡ length (events_in (entry_of name moment reading))
count_is name moment (Events taken events skipped) =
    let stamped : Event → ℕ × Event = λ (event : Event). (moment, event) in
    sym (length-map events stamped)
count_is name moment (Table taken table rows) = refl

not_empty : {X : Type 0} (front : List X) (x : X) (rest : List X) → front ++ x ∷ rest ≡ [] → ⊥
not_empty {X} front x rest none =
    let size = ap (λ (xs : List X). length xs) none in
    let parts = length-append front (x ∷ rest) in
    omega (arith, size, parts)

-- of the turns of a round the last one gave these readings, of which the next has too many events
module _ {S : Type 0} (tells : Type 0) (left : S → List ℕ) (faults : S → ℕ) (start : List Entry) (given : Given) (moment : ℕ) (told : tells) (which : Which) (last : Turn S) (done rest : List Reading) (next : Reading) (parts : last.readings ≡ done ++ next ∷ rest) (waiting : List Feeding) (untouched : List S) where
  -- the entries of those before it
  abbrev came : List Entry
  came = entries_of last.feed.name moment done

  they_are : entries_of last.feed.name moment last.readings ≡ came ++ entry_of last.feed.name moment next ∷ entries_of last.feed.name moment rest
  they_are =
      ap (λ (readings : List Reading). entries_of last.feed.name moment readings) parts ∙ map-append (entry_of last.feed.name moment) done (next ∷ rest)

  steps_spend : (now : List Entry) (sources : List Source) (turns : List (Turn S)) → moment ≡ moment_of now → IsDistinct bytes_eq (names_of (feeds_of turns ++ last.feed ∷ waiting)) → All (IsTurn tells left faults which given.records) (turns ++ last ∷ []) → AreFed tells left given.config.categories start now sources (feeds_of turns ++ last.feed ∷ waiting) (objects_of turns ++ last.source ∷ untouched)
      → 2 ^ 62 < last_number (now ++ (round_entries moment turns ++ came)) + event_count next → StepsSpend given now (filter (λ (source : Source). takes_part which source.kind) sources) (round_entries moment turns ++ came)
  steps_spend now [] [] at distinct each are beyond = absurd are
  steps_spend now [] (turn ∷ turns) at distinct each are beyond = absurd are
  steps_spend now (source ∷ sources) [] at distinct each are beyond =
      by_part (takes_part which source.kind) (subst (λ (kind : SourceKind). Plays tells left given.records (takes_part which kind) last) are.0.kind (All-head (IsTurn tells left faults which given.records) last [] each).plays)
    where
      others : List Source
      others = filter (λ (source : Source). takes_part which source.kind) sources

      by_part : (part : Bool) → Plays tells left given.records part last → StepsSpend given now (cond part (source ∷ others) others) came
      by_part true gave = inl (record {
        next = entry_of last.feed.name moment next;
        rest = entries_of last.feed.name moment rest;
        step = subst (TakesStep given now source) they_are (step_taken tells left start now given source last.feed last.next last.source last.rest last.readings are.0 gave moment told at);
        beyond = subst (λ (count : ℕ). 2 ^ 62 < last_number (now ++ came) + count) (count_is last.feed.name moment next) beyond;
      })
      by_part false idle = absurd (not_empty done next rest (sym parts ∙ idle.none))
  steps_spend now (source ∷ sources) (turn ∷ turns) at distinct each are beyond =
      subst (StepsSpend given now (filter (λ (source : Source). takes_part which source.kind) (source ∷ sources))) (sym (append_assoc own taken came))
      (by_part (takes_part which source.kind) (subst (λ (kind : SourceKind). Plays tells left given.records (takes_part which kind) turn) are.0.kind (All-head (IsTurn tells left faults which given.records) turn (turns ++ last ∷ []) each).plays)
      (steps_spend (now ++ own) sources turns (at ∙ sym (moment_behind now turn.feed.name moment turn.readings)) distinct.1 (All-tail (IsTurn tells left faults which given.records) turn (turns ++ last ∷ []) each) wait behind))
    where
      own : List Entry
      own = turn_entries moment turn

      taken : List Entry
      taken = round_entries moment turns

      others : List Source
      others = filter (λ (source : Source). takes_part which source.kind) sources

      -- the other sources wait
      wait : AreFed tells left given.config.categories start (now ++ own) sources (feeds_of turns ++ last.feed ∷ waiting) (objects_of turns ++ last.source ∷ untouched)
      wait =
          others_fed_on tells left given.config.categories start now (now ++ own) turn.feed.name sources (feeds_of turns ++ last.feed ∷ waiting) (objects_of turns ++ last.source ∷ untouched) (λ other differs. other_behind now turn.feed.name other moment turn.readings differs) distinct.0 are.1

      behind : 2 ^ 62 < last_number ((now ++ own) ++ (taken ++ came)) + event_count next
      behind =
          subst (λ (list : List Entry). 2 ^ 62 < last_number list + event_count next) (ap (λ (es : List Entry). now ++ es) (append_assoc own taken came) ∙ sym (append_assoc now own (taken ++ came))) beyond

      by_part : (part : Bool) → Plays tells left given.records part turn → StepsSpend given (now ++ own) others (taken ++ came) → StepsSpend given now (cond part (source ∷ others) others) (own ++ (taken ++ came))
      by_part true gave more =
          inr (own, taken ++ came, step_taken tells left start now given source turn.feed turn.next turn.source turn.rest turn.readings are.0 gave moment told at, more, refl)
      by_part false idle more =
          let none = ap (λ (readings : List Reading). entries_of turn.feed.name moment readings) idle.none in
          subst (λ (entries : List Entry). StepsSpend given now others (entries ++ (taken ++ came))) (sym none) (subst (λ (list : List Entry). StepsSpend given list others (taken ++ came)) (append-nil now) (subst (λ (entries : List Entry). StepsSpend given (now ++ entries) others (taken ++ came)) none more))

push_map : {X Y : Type 0} (f : X → Y) (xs : List X) (x : X) (rest : List Y) → map f (xs ++ x ∷ []) ++ rest ≡ map f xs ++ f x ∷ rest
push_map f xs x rest = ap (λ ys. ys ++ rest) (map-append f xs (x ∷ [])) ∙ append_assoc (map f xs) (f x ∷ []) rest

module _ {S : Type 0} (tells : Type 0) (left : S → List ℕ) (faults : S → ℕ) (which : Which) (given : Given) (feeds nexts : List Feeding) (objects rests : List S) (old new : Kept) (o : Overflows tells left faults which given.records feeds nexts objects rests old new) where
  -- what the round brings the state up to there
  abbrev pub overflow_entries : List Entry
  overflow_entries = round_entries old.counts.moment o.turns ++ entries_of o.last.feed.name old.counts.moment o.exceeds.done

  pub overflow_brings : AddsEntries old overflow_entries new
  overflow_brings =
      brings_then old o.between new (round_entries old.counts.moment o.turns) (entries_of o.last.feed.name old.counts.moment o.exceeds.done) o.brings
      (subst (λ (moment : ℕ). AddsEntries o.between (entries_of o.last.feed.name moment o.exceeds.done) new) (ap (λ (c : Counts). c.moment) o.brings.counts ∙ round_moment old.counts old.counts.moment o.turns) o.exceeds.brings)

  -- by the list these are steps up to one that spends the numbers
  pub overflow_spends : (start now : List Entry) → tells → old.counts.moment ≡ moment_of now → IsDistinct bytes_eq (names_of feeds) → AreFed tells left given.config.categories start now given.sources feeds objects → HasValues (now ++ overflow_entries) new → StepsSpend given now (filter (λ (source : Source). takes_part which source.kind) given.sources) overflow_entries
  overflow_spends start now told at distinct are has =
      steps_spend tells left faults start given old.counts.moment told which o.last o.exceeds.done o.exceeds.rest o.exceeds.next o.exceeds.are o.front.waiting o.front.untouched now given.sources o.turns at
      (subst (λ (feeds : List Feeding). IsDistinct bytes_eq (names_of feeds)) feeds_are distinct) o.each
      (subst (λ (objects : List S). AreFed tells left given.config.categories start now given.sources (feeds_of o.turns ++ o.last.feed ∷ o.front.waiting) objects) objects_are (subst (λ (feeds : List Feeding). AreFed tells left given.config.categories start now given.sources feeds objects) feeds_are are))
      (subst (λ (number : ℕ). 2 ^ 62 < number + event_count o.exceeds.next) has.image.last o.exceeds.beyond)
    where
      feeds_are : feeds ≡ feeds_of o.turns ++ o.last.feed ∷ o.front.waiting
      feeds_are = o.front.feeds_are ∙ push_map (λ (turn : Turn S). turn.feed) o.turns o.last o.front.waiting

      objects_are : objects ≡ objects_of o.turns ++ o.last.source ∷ o.front.untouched
      objects_are = o.front.sources_are ∙ push_map (λ (turn : Turn S). turn.source) o.turns o.last o.front.untouched

-- a line of a source of tables gives no event
no_event : (name : List ℕ) (moment : ℕ) (line : List ℕ) (piece : ReadRecord) → TableGives line piece.gain → events_in (entry_of name moment (reading_of piece)) ≡ []
no_event name moment line piece gives = by_gain piece.gain gives
  where
    by_gain : (given : Gain) → TableGives line given → events_in (entry_of name moment (reading_of (record piece { gain = given }))) ≡ []
    by_gain (gain.Event event skipped) (inl table) = absurd (let no : ⊥ = (let e = table.3 in cc) in no)
    by_gain (gain.Event event skipped) (inr skips) =
        let none : event ≡ None = (let e : gain.Event event skipped ≡ gain.Event None 1 = skips.1 in cc) in
        ap (λ (found : Option Event). events_in (entry_of name moment (Events piece.end (option_to_list found) skipped))) none
    by_gain (gain.Table table rows) gives = refl

no_events : (name : List ℕ) (moment start : ℕ) (lines : List (List ℕ)) (pieces : List ReadRecord) → LinesGive TableGives start lines pieces → All (λ (entry : Entry). events_in entry ≡ []) (map (entry_of name moment) (map reading_of pieces))
no_events name moment start [] [] gives = All-nil (λ (entry : Entry). events_in entry ≡ [])
no_events name moment start [] (piece ∷ pieces) gives = absurd gives
no_events name moment start (line ∷ lines) [] gives = absurd gives
no_events name moment start (line ∷ lines) (piece ∷ pieces) gives =
    All-cons (λ (entry : Entry). events_in entry ≡ []) (entry_of name moment (reading_of piece)) (map (entry_of name moment) (map reading_of pieces)) (no_event name moment line piece gives.0) (no_events name moment (start + length line + 1) lines pieces gives.2)

-- so no step of it spends the numbers behind a list that has no more events than there are numbers
table_keeps : (given : Given) (kept : List Entry) (source : Source) (entries : List Entry) → source.kind ≡ kind.Tables → StepSpends given kept source entries → Legal (kept ++ entries) → ⊥
table_keeps given kept source entries tables spends legal =
    let from = taken_from kept source.name in
    let step = spends.step in
    let takes = subst (λ (kind : SourceKind). Takes kind given.config.categories from (drop from source.bytes) given.records step.pieces step.to) tables (step.takes tt) in
    let are : entries ++ spends.next ∷ spends.rest ≡ map (entry_of source.name (moment_of kept)) (map reading_of step.pieces) = step.are ∙ ap (λ (kind : SourceKind). map (entry_of source.name (moment_of kept)) (readings_of kind step.pieces)) tables in
    let each = no_events source.name (moment_of kept) from takes.reads.lines step.pieces takes.reads.gives in
    let none = all_here (λ (entry : Entry). events_in entry ≡ []) entries spends.next spends.rest (subst (All (λ (entry : Entry). events_in entry ≡ [])) (sym are) each) in
    let count : length (events_in spends.next) ≡ 0 = ap (λ (events : List (ℕ × Event)). length events) none in
    let most = (fits (kept ++ entries) legal).last in
    let beyond = spends.beyond in
    omega (arith, count, most, beyond)

pub tables_keep : (given : Given) (kept : List Entry) (sources : List Source) (entries : List Entry) → StepsSpend given kept (filter (λ (source : Source). takes_part which.Tables source.kind) sources) entries → Legal (kept ++ entries) → ⊥
tables_keep given kept [] entries spends legal = spends
tables_keep given kept (source ∷ sources) entries spends legal =
    by_kind source.kind refl (λ (now es : List Entry). tables_keep given now sources es) spends
  where
    others : List Source
    others = filter (λ (source : Source). takes_part which.Tables source.kind) sources

    by_kind : (k : SourceKind) → source.kind ≡ k → ((now es : List Entry) → StepsSpend given now others es → Legal (now ++ es) → ⊥) → StepsSpend given kept (cond (takes_part which.Tables k) (source ∷ others) others) entries → ⊥
    by_kind kind.Audit is rest spends = rest kept entries spends legal
    by_kind kind.Changes is rest spends = rest kept entries spends legal
    by_kind kind.Tables is rest (inl here) = table_keeps given kept source entries is here legal
    by_kind kind.Tables is rest (inr (own, es, step, more, are)) =
        rest (kept ++ own) es more (subst Legal (ap (λ (es : List Entry). kept ++ es) are ∙ sym (append_assoc kept own es)) legal)
