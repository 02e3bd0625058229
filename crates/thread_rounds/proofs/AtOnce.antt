-- What a step of threads over a state's store makes of the state.
use Rattle.std.proofs.Common.{◌≡◌, inl, inr, ℕ, true, List, [], ◌∷◌, ◌++◌, map, refl, sym, ap, ap₂, ◌∙◌, subst, Result, Ok, Err}
use Rattle.std.specs.Prelude.{All, OnOk, bytes_eq, length}
use Rattle.std.specs.List.{AllZip}
use Rattle.std.proofs.lemmas.List.Elements.{All-head, All-map, All-tail, All-weaker}
use mathlib.Core.List.{map-append}
use Rattle.osq_value.specs.declared.reading.Reading.{Reading}
use Rattle.entry_model.specs.Fits.{IsDistinct}
use Rattle.entry_model.specs.Next.{offset_at}
use Rattle.entry_model.specs.declared.entry.Entry.{Entry}
use Rattle.entry_model.specs.declared.entry.Entry.TheVariants.{Opened, Configured, Ticked, Appended, TableSet, Expired, Committed, Acked}
use Rattle.session_state.specs.Kept.{Counts, Kept, counts_next}
use Rattle.session_state.specs.Sealing.{IsSealable}
use Rattle.session_model.specs.Orders.{at_once}
use Rattle.session_model.specs.Taking.{from_source}
use Rattle.source_feeds.specs.Feeding.{Feeding}
use Rattle.turn_lock.specs.Own.{own}
use Rattle.turn_lock.specs.Turns.{entries}
use Rattle.turn_lock.proofs.Lists.{all_left}
use Rattle.shared_store.specs.declared.noted.Noted.{Noted}
use Rattle.shared_store.specs.declared.noted.Noted.TheVariants.{Added, Given, Taken}
use Rattle.shared_store.specs.Laws.{HasNoMark}
use Rattle.shared_store.specs.Notes.{entries_in}
use Rattle.shared_store.specs.Shares.{StandsFor}
use Rattle.shared_store.specs.Values.{counts_after}
use Rattle.shared_store.proofs.Lists.{untaken_all}
use Rattle.daemon_rounds.specs.Adding as adding
use Rattle.daemon_rounds.specs.AtOnce.{Gains, IsReadingOf, SpendsAtOnce, WorksAtOnce, is_work}
use Rattle.daemon_rounds.specs.Orders.{EndsRound}
use Rattle.daemon_rounds.specs.Rounding.{AllCount, AreGoing, FailsAt, names_of}
use Rattle.daemon_rounds.specs.Telling.{AreTellable, IsTold}
use Rattle.daemon_rounds.specs.Turns.{Gave, IsGoing, Turn}
use Rattle.daemon_rounds.specs.declared.error.TakeError.{TakeError}
use Rattle.daemon_rounds.specs.declared.error.TakeError.TheVariants as take
use Rattle.daemon_rounds.proofs.Counting.{all_count}
use Rattle.thread_laws.specs.Jobs.{IsNoteOf, Stamped}
use Rattle.thread_laws.specs.Joining.{AreAdded, HasEnded, HasPublished, HasWorked, Part}
use Rattle.thread_laws.specs.Laws.{AreBySeats}
use Rattle.thread_laws.proofs.Adding.{HoldsIn, entries_all}
use Rattle.thread_laws.proofs.Bodies.{by_seats}
use Rattle.thread_laws.proofs.Joined.{joins}
use Rattle.thread_jobs.specs.Publishing.{IsGoingFrom}
use Rattle.thread_rounds.specs.declared.error.StepRefusal.{StepRefusal}
use Rattle.thread_rounds.specs.declared.error.StepRefusal.TheVariants as step
use Rattle.thread_rounds.specs.AtOnce.{taken_by}
use Rattle.thread_rounds.specs.Stepping.{AreWorkOf, IsPartOf, IsStepDone, IsWorkOf, SpendsStep}
use Rattle.thread_rounds.proofs.Seated.{map_twice}
use Rattle.thread_rounds.proofs.Together.{zip_all}

-- ---- what work adds to a state
same_counts : (counts : Counts) (more : List Entry) → counts_after counts more ≡ adding.counts_after counts more
same_counts counts [] = refl
same_counts counts (entry ∷ more) = same_counts (counts_next counts entry) more

none_taken : (names : List (List ℕ)) (notes : List Noted) → All (IsWorkOf names) notes → HasNoMark notes
none_taken names [] works = tt
none_taken names (Added entry ∷ notes) works = none_taken names notes (All-tail (IsWorkOf names) (Added entry) notes works)
none_taken names (Taken ∷ notes) works = absurd (All-head (IsWorkOf names) Taken notes works)
none_taken names (Given cut ∷ notes) works = none_taken names notes (All-tail (IsWorkOf names) (Given cut) notes works)

-- what holds of each entry of work holds of the entries of its notes
held : (names : List (List ℕ)) (Q : Entry → Type 0) → ((entry : Entry) → (is_work names entry ≡ true) × IsSealable entry → Q entry) → (note : Noted) → IsWorkOf names note → HoldsIn Q note
held names Q each (Added entry) is = each entry is
held names Q each Taken is = tt
held names Q each (Given cut) is = tt

all_held : (names : List (List ℕ)) (Q : Entry → Type 0) → ((entry : Entry) → (is_work names entry ≡ true) × IsSealable entry → Q entry) → (notes : List Noted) → All (IsWorkOf names) notes → All Q (entries_in notes)
all_held names Q each notes works = entries_all Q notes (All-weaker (IsWorkOf names) (HoldsIn Q) (held names Q each) notes works)

told : (entry : Entry) → IsSealable entry → IsTold entry
told (Committed batch) is = let sent = is batch refl in record { accepted = sent.accepted; calendar = sent.calendar }
told (Opened session rules) is = tt
told (Configured document schedule moment) is = tt
told (Ticked moment) is = tt
told (Appended source taken events skipped moment) is = tt
told (TableSet source table rows taken) is = tt
told (Expired table floor moment) is = tt
told (Acked upto) is = tt

all_told : (more : List Entry) → All IsSealable more → AreTellable more
all_told [] sealable = tt
all_told (entry ∷ more) sealable =
    (told entry (All-head IsSealable entry more sealable), all_told more (All-tail IsSealable entry more sealable))

module _ (names : List (List ℕ)) (old new : Kept) (notes : List Noted) (works : All (IsWorkOf names) notes) where
  gains : StandsFor old notes new → Gains old (entries_in notes) new
  gains stands = record {
    stands = stands.stands;
    counts = stands.comes.counts ∙ same_counts old.counts (entries_in notes);
    schedule = stands.comes.schedule;
    ticked = stands.comes.ticked;
    tail = stands.tail ∙ untaken_all old.tail notes (none_taken names notes works);
  }

  all_work : All (λ (entry : Entry). is_work names entry ≡ true) (entries_in notes)
  all_work = all_held names (λ (entry : Entry). is_work names entry ≡ true) (λ entry is. is.0) notes works

  all_tellable : AreTellable (entries_in notes)
  all_tellable = all_told (entries_in notes) (all_held names IsSealable (λ entry is. is.1) notes works)

-- ---- what each source gave
own_entries : (name : List ℕ) (readings : List Reading) (notes : List Noted) → AllZip (IsNoteOf name) readings notes → AllZip (IsReadingOf name) readings (entries_in notes)
own_entries name [] [] zip = tt
own_entries name [] (note ∷ notes) zip = absurd zip
own_entries name (reading ∷ readings) [] zip = absurd zip
own_entries name (reading ∷ readings) (note ∷ notes) zip =
    subst (λ (n : Noted). AllZip (IsReadingOf name) (reading ∷ readings) (entries_in (n ∷ notes))) (sym zip.0.1) ((zip.0.0, refl), own_entries name readings notes zip.1)

part_names : {S : Type 0} (turns : List (Turn S)) (parts : List Part) → AllZip IsPartOf turns parts → map (λ (part : Part). part.name) parts ≡ map (λ (turn : Turn S). turn.feed.name) turns
part_names [] [] zip = refl
part_names [] (part ∷ parts) zip = absurd zip
part_names (turn ∷ turns) [] zip = absurd zip
part_names (turn ∷ turns) (part ∷ parts) zip = ap₂ (λ (n : List ℕ) (l : List (List ℕ)). n ∷ l) zip.0.name (part_names turns parts zip.1)

-- the feeds have the names that they had
same_names : {S : Type 0} (tells : Type 0) (left : S → List ℕ) (feeds nexts : List Feeding) (sources : List S) → AllCount tells left feeds nexts sources → names_of nexts ≡ names_of feeds
same_names tells left [] [] [] all = refl
same_names tells left [] [] (source ∷ sources) all = absurd all
same_names tells left [] (next ∷ nexts) sources all = absurd all
same_names tells left (feed ∷ feeds) [] sources all = absurd all
same_names tells left (feed ∷ feeds) (next ∷ nexts) [] all = absurd all
same_names tells left (feed ∷ feeds) (next ∷ nexts) (source ∷ sources) all =
    ap₂ (λ (n : List ℕ) (l : List (List ℕ)). n ∷ l) all.0.name (same_names tells left feeds nexts sources all.1)

-- ---- offsets
pub going_first : (old : Kept) (feeds : List Feeding) → AreGoing old.counts.taken feeds → All (IsGoingFrom old []) feeds
going_first old feeds going = All-weaker (IsGoing old.counts.taken) (IsGoingFrom old []) (λ feed is. record { begun = is.begun; unspent = is.unspent; place = is.place }) feeds going.each

going_last : (old new : Kept) (notes : List Noted) (nexts : List Feeding) → StandsFor old notes new → All (IsGoingFrom old notes) nexts → All (IsGoing new.counts.taken) nexts
going_last old new notes nexts stands going =
    All-weaker (IsGoingFrom old notes) (IsGoing new.counts.taken)
    (λ feed is. record { begun = is.begun; unspent = is.unspent; place = is.place ∙ ap (λ (c : Counts). offset_at c.taken feed.name) (sym stands.comes.counts) }) nexts going

-- ---- the step
module _ {S : Type 0} (tells : Type 0) (left : S → List ℕ) (faults : S → ℕ) (most : ℕ) (feeds nexts : List Feeding) (sources rests : List S) where
  -- what is known of a step, however it ended
  pub record Stepped (start : Kept) (before after : Stamped) (done : Result (Unit {0}) StepRefusal) : Type 0 where
    pub ok : OnOk done (IsStepDone tells left faults most start before after feeds nexts sources rests)
    pub going : OnOk done (All (IsGoingFrom start (entries after)) nexts)
    pub counts : AllCount tells left feeds nexts sources
    pub fault : (place : ℕ) → done ≡ Err (step.SourceFault place) → FailsAt faults place sources rests
    pub spent : done ≡ Err step.NumbersSpent → SpendsStep tells left most start before after feeds nexts sources rests

  -- where memory is wanting before the step
  pub no_memory : (old new : Kept) → length sources ≡ length feeds → EndsRound at_once tells left faults most feeds feeds sources sources old new (Err take.NoMemory)
  no_memory old new paired = record {
    round = tt;
    going = tt;
    counts = all_count tells left feeds sources paired;
    fault = λ place is. absurd (cc);
    spent = λ is. absurd (cc);
  }

  module _ (old new : Kept) (after : Stamped) (distinct : IsDistinct bytes_eq (names_of feeds)) (stands : StandsFor old (entries after) new) where
    works_at_once : IsStepDone tells left faults most old [] after feeds nexts sources rests → WorksAtOnce tells left faults most feeds nexts sources rests old new
    works_at_once done = record {
      turns = done.turns;
      whole = done.whole;
      each = done.each;
      body = body;
      gains = gains (names_of feeds) old new (entries more) works (subst (λ (l : Stamped). StandsFor old (entries l) new) done.grown stands);
      own =
          zip_all IsPartOf (λ (turn : Turn S). Unit {0}) IsOwn (λ (turn : Turn S). AllZip (IsReadingOf turn.feed.name) turn.readings (from_source turn.feed.name body)) of_turn done.turns done.parts done.are (λ k d h. tt)
          (λ k d h. (seats.own_are k d h, added.published k d h));
      parts = all_work (names_of feeds) old new (entries more) works;
      tellable = all_tellable (names_of feeds) old new (entries more) works;
    }
      where
        more : Stamped
        more = done.more

        body : List Entry
        body = entries_in (entries more)

        works : All (IsWorkOf (names_of feeds)) (entries more)
        works = All-map (IsWorkOf (names_of feeds)) (λ (note : ℕ × Noted). note.1) more done.works

        added : AreAdded done.parts done.workers more
        added =
            joins done.parts done.workers [] more (subst (λ (l : Stamped). All (HasPublished [] l) done.parts) done.grown done.published)
            (All-weaker (HasEnded old [] more) (HasWorked [] more) (λ worker one. one.worked) done.workers (subst (λ (l : Stamped). All (HasEnded old [] l) done.workers) done.grown done.ended)) done.distinct done.numbered

        parts_distinct : IsDistinct bytes_eq (map (λ (part : Part). part.name) done.parts)
        parts_distinct =
            subst (IsDistinct bytes_eq)
            (ap (map (λ (feed : Feeding). feed.name)) done.whole.feeds_are ∙ map_twice (λ (feed : Feeding). feed.name) (λ (turn : Turn S). turn.feed) done.turns ∙ sym (part_names done.turns done.parts done.are)) distinct

        seats : AreBySeats done.parts more
        seats = by_seats done.parts done.workers more parts_distinct added

        IsOwn : Part → Type 0
        IsOwn part = (from_source part.name body ≡ entries_in (own part.number more)) × AllZip (IsNoteOf part.name) part.readings (own part.number more)

        of_turn : (turn : Turn S) (part : Part) → IsPartOf turn part → Unit {0} → IsOwn part → AllZip (IsReadingOf turn.feed.name) turn.readings (from_source turn.feed.name body)
        of_turn turn part is none is_own =
            subst (λ (readings : List Reading). AllZip (IsReadingOf turn.feed.name) readings (from_source turn.feed.name body)) is.readings
            (subst (λ (name : List ℕ). AllZip (IsReadingOf name) part.readings (from_source name body)) is.name
            (subst (AllZip (IsReadingOf part.name) part.readings) (sym is_own.0) (own_entries part.name part.readings (own part.number more) is_own.1)))

    spends_at_once : SpendsStep tells left most old [] after feeds nexts sources rests → SpendsAtOnce tells left most feeds nexts sources rests old
    spends_at_once spends = elim spends.spent [
      | inl many ↦
          let front = entries many.front in
          let parts : entries spends.more ≡ front ++ entries many.more = ap (λ (l : Stamped). entries l) (sym spends.grown ∙ many.are) ∙ map-append (λ (x : ℕ × Noted). x.1) many.front many.more in
          let there = all_left (IsWorkOf (names_of feeds)) front (entries many.more) (subst (All (IsWorkOf (names_of feeds))) parts works) in
          let exceeds = many.too_much.exceeds in
          record {
            added = entries_in front;
            between = exceeds.state;
            gains = gains (names_of feeds) old exceeds.state front there exceeds.stands;
            parts = all_work (names_of feeds) old exceeds.state front there;
            spent =
                inl (record {
                  place = many.place;
                  feed = many.feed;
                  next = many.next;
                  source = many.source;
                  rest = many.rest;
                  feed_there = many.feed_there;
                  next_there = many.next_there;
                  source_there = many.source_there;
                  rest_there = many.rest_there;
                  done = exceeds.done;
                  reading = exceeds.next;
                  later = exceeds.rest;
                  gave = subst (Gave tells (left many.source) (left many.rest) many.feed many.next most) exceeds.are many.too_much.gave;
                  beyond = exceeds.beyond;
                });
          }
      | inr batches ↦
          let parts : entries spends.more ≡ batches.front ++ batches.rest = ap (λ (l : Stamped). entries l) (sym spends.grown) ∙ batches.are in
          let there = all_left (IsWorkOf (names_of feeds)) batches.front batches.rest (subst (All (IsWorkOf (names_of feeds))) parts works) in
          record {
            added = entries_in batches.front;
            between = batches.state;
            gains = gains (names_of feeds) old batches.state batches.front there batches.stands;
            parts = all_work (names_of feeds) old batches.state batches.front there;
            spent = inr batches.beyond;
          }
    ]
      where
        works : All (IsWorkOf (names_of feeds)) (entries spends.more)
        works = All-map (IsWorkOf (names_of feeds)) (λ (note : ℕ × Noted). note.1) spends.more spends.works

    -- how the round ends, by how its step did
    ends : (done : Result (Unit {0}) StepRefusal) → Stepped old [] after done → EndsRound at_once tells left faults most feeds nexts sources rests old new (taken_by done)
    ends (Ok done) s = record {
      round = works_at_once s.ok;
      going = record {
        each = going_last old new (entries after) nexts stands s.going;
        distinct = subst (IsDistinct bytes_eq) (sym (same_names tells left feeds nexts sources s.counts)) distinct;
      };
      counts = s.counts;
      fault = λ place is. absurd (cc);
      spent = λ is. absurd (cc);
    }
    ends (Err (step.SourceFault at)) s = record {
      round = tt;
      going = tt;
      counts = s.counts;
      fault = λ place is. let same : at ≡ place = cc in s.fault place (ap (λ (p : ℕ). Err (step.SourceFault p)) same);
      spent = λ is. absurd (cc);
    }
    ends (Err step.NumbersSpent) s = record {
      round = tt;
      going = tt;
      counts = s.counts;
      fault = λ place is. absurd (cc);
      spent = λ is. spends_at_once (s.spent refl);
    }
    ends (Err step.NoMemory) s = record { round = tt; going = tt; counts = s.counts; fault = λ place is. absurd (cc); spent = λ is. absurd (cc) }

  -- the same by the start and the list of the store, which was made over the state
  pub round_ends : (old new start : Kept) (before after : Stamped) (done : Result (Unit {0}) StepRefusal) (result : Result (Unit {0}) TakeError) → start ≡ old → before ≡ [] → result ≡ taken_by done → AreGoing old.counts.taken feeds → Stepped start before after done
      → StandsFor start (entries after) new → EndsRound at_once tells left faults most feeds nexts sources rests old new result
  round_ends old new start before after done result same none is going stepped stands =
      subst (EndsRound at_once tells left faults most feeds nexts sources rests old new) (sym is)
      (ends old new after going.distinct (subst (λ (s : Kept). StandsFor s (entries after) new) same stands) done
      (subst (λ (s : Kept). Stepped s [] after done) same (subst (λ (l : Stamped). Stepped start l after done) none stepped)))
