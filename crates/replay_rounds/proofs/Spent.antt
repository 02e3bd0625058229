-- A session in which a number is spent.
use Rattle.std.proofs.Common.{◌≡◌, ℕ, ◌+◌, ◌<◌, List, [], ◌∷◌, ◌++◌, length, inl, inr, refl, sym, ap, ◌∙◌, subst, append_assoc, zero, suc}
use Rattle.std.specs.Prelude.{◌^◌, bytes_eq, map, max, ◌⊎◌, All, Contains, Option, Some, true, slice_get}
use Rattle.std.proofs.lemmas.List.{append-nil}
use Rattle.osq_config.specs.declared.config.Config.{Config}
use Rattle.source_feeds.specs.Feeding.{Feeding}
use Rattle.entry_model.specs.declared.entry.Entry.{Entry}
use Rattle.entry_model.specs.declared.entry.Entry.TheVariants.{Acked, Opened, Ticked}
use Rattle.entry_model.specs.declared.restored.Restored.{Restored}
use Rattle.entry_model.specs.Fits.{IsDistinct}
use Rattle.entry_model.specs.Legal.{Legal}
use Rattle.entry_model.specs.Next.{offset_at}
use Rattle.entry_model.specs.Summary.{summary}
use Rattle.entry_model.specs.Values.{commits, moment_in, moment_of, events_in}
use Rattle.entry_model.proofs.Lasts.{last_of-append}
use Rattle.entry_model.proofs.Summaries.{taken_is}
use Rattle.session_model.specs.Given.{Given, Source}
use Rattle.session_model.specs.Sessions.{Beat}
use Rattle.session_state.specs.Kept.{Counts, Kept}
use Rattle.session_state.specs.StateOf.{HasValues}
use Rattle.daemon_rounds.specs.Adding.{AreFree}
use Rattle.daemon_rounds.specs.Answering.{SpendsBatches, committed_all}
use Rattle.daemon_rounds.specs.Moments.{IsRead}
use Rattle.daemon_rounds.specs.Rounding.{AreGoing, Overflows, Rounds, names_of, round_entries}
use Rattle.daemon_rounds.specs.Session.{IsOverfull}
use Rattle.daemon_rounds.specs.Starting.{source_names}
use Rattle.daemon_rounds.specs.declared.setup.Setup.{Setup}
use Rattle.daemon_rounds.specs.declared.turning.Which.TheVariants as which
use Rattle.daemon_rounds.proofs.Adding.{gains_of, gains_then}
use Rattle.daemon_rounds.proofs.Started.{all_going}
use Rattle.forward_rounds.specs.Forwarding.{View}
use Rattle.replay_rounds.specs.Fixed.{Fixed, Linked, fixed_with}
use Rattle.replay_rounds.specs.Linking.{IsAcked, readings_of}
use Rattle.replay_rounds.specs.Running.{Grows, run_by}
use Rattle.replay_rounds.specs.Sources.{AreFed, IsFed}
use Rattle.replay_rounds.specs.Spent.{AnswersFront, RanOutOfNumbers, SpendsAt, StepsSpend, TickSpends, ReadingSpends}
use Rattle.replay_rounds.specs.Standing.{Standing}
use Rattle.replay_rounds.specs.Ticked.{SpendsTick}
use Rattle.replay_rounds.proofs.Answered.{answered_front}
use Rattle.replay_rounds.proofs.Begins.{BeginsTick, begins_tick, values_behind}
use Rattle.replay_rounds.proofs.Begun.{started_fed}
use Rattle.replay_rounds.proofs.Feeds.{fed_on, fed_names}
use Rattle.replay_rounds.proofs.Nothing.{nothing_behind, opened_nothing}
use Rattle.replay_rounds.proofs.OpenedSession.{OpensSession}
use Rattle.replay_rounds.proofs.Overrun.{overflow_brings, overflow_entries, overflow_spends, tables_keep, count_is}
use Rattle.replay_rounds.proofs.Linked.{heard_none}
use Rattle.replay_rounds.proofs.Ran.{HeardIn, IsAdded, acked_standing, all_kept, grows, heard_acks, moment_is, read_all, reads_more}
use Rattle.replay_rounds.proofs.Sessions.{at_beat}
use Rattle.replay_rounds.proofs.Stepped.{every_source, rounds_taken, step_taken}
use Rattle.session_model.specs.Orders.{Order, at_once, in_turn}
use Rattle.daemon_rounds.specs.AtOnce.{Gains, GivesTooMuch, SpendsAtOnce, WorksAtOnce, is_work}
use Rattle.daemon_rounds.specs.Orders.{RoundsIn, SpendsIn}
use Rattle.osq_value.specs.declared.reading.Category.{Category}
use Rattle.std.proofs.lemmas.List.Elements.{All-append, All-weaker}
use Rattle.session_model.specs.Taking.{TakesStep}
use Rattle.session_model.specs.Working.{acks_of, is_part}
use Rattle.session_state.specs.Readings.{entry_of}
use Rattle.daemon_rounds.specs.Appending.{entries_of}
use Rattle.replay_rounds.proofs.AtOnce.{batches_work, work_part}
use Rattle.replay_rounds.proofs.Endings.{here, later}
use Rattle.replay_rounds.proofs.Again.{again_brings}
use mathlib.Core.List.{map-append}
use Rattle.daemon_rounds.specs.Ticking.{ConfiguresAgain, asks_again}

-- By the list: behind what the session has added a tick at this moment has these entries up to the place at which no number is left.
pub record SpendsBehind (order : Order) (x : Fixed) (added : List Entry) (moment : ℕ) : Type 0 where
  pub own : List Entry
  pub legal : x.keeper_tells → Legal x.start → Legal ((x.start ++ added) ++ own)
  pub spends : x.keeper_tells → x.source_tells → Legal x.start → TickSpends order x.given (x.start ++ added) moment own

-- a tick that spends the numbers, behind others
spends_behind : (order : Order) (tells : Type 0) (given : Given) (kept : List Entry) (beats : List Beat) (beat : Beat) (polled : List (Option ℕ)) (reading : ℕ) (entries : List Entry) → (own : List Entry) × TickSpends order given (kept ++ acks_of kept polled) (max reading (moment_of kept)) own × (entries ≡ acks_of kept polled ++ own) → SpendsAt order tells given kept (beats ++ beat ∷ []) polled reading entries
spends_behind order tells given kept [] beat polled reading entries spends = spends
spends_behind order tells given kept (first ∷ beats) beat polled reading entries spends = spends

-- the source whose feed and object stand at this place
fed_at : {S : Type 0} (tells : Type 0) (left : S → List ℕ) (paths : List Category) (start now : List Entry) (sources : List Source) (feeds : List Feeding) (objects : List S) → AreFed tells left paths start now sources feeds objects → (place : ℕ) (feed : Feeding) (object : S) → slice_get feeds place ≡ Some feed → slice_get objects place ≡ Some object → (source : Source) × Contains sources source × IsFed tells left paths start now source feed object
fed_at tells left paths start now [] [] [] are place feed object feed_there object_there = absurd (cc)
fed_at tells left paths start now (source ∷ sources) (first ∷ feeds) (thing ∷ objects) are zero feed object feed_there object_there =
    let same : first ≡ feed = (cc) in
    let thing_is : thing ≡ object = (cc) in
    (source, here source sources, subst (λ (o : _). IsFed tells left paths start now source feed o) thing_is (subst (λ (f : Feeding). IsFed tells left paths start now source f thing) same are.0))
fed_at tells left paths start now (source ∷ sources) (first ∷ feeds) (thing ∷ objects) are (suc place) feed object feed_there object_there =
    let (found, among, is) = fed_at tells left paths start now sources feeds objects are.1 place feed object feed_there object_there in
    (found, later source sources found among, is)
fed_at tells left paths start now _ _ _ are place feed object feed_there object_there = absurd are

module _ {S : Type 0} (left : S → List ℕ) (faults : S → ℕ) (x : Fixed) (added kept : List Entry) (feeds nexts : List Feeding) (objects rests : List S) (configured_at moment : ℕ) (old configured : Kept) (standing : Standing left x added kept feeds objects configured_at old) (distinct : IsDistinct bytes_eq (names_of feeds)) (b : BeginsTick left x added feeds objects configured_at moment old configured) where
  abbrev begun : List Entry
  begun = Ticked moment ∷ b.anew

  begins : Gains old begun configured
  begins = gains_of old configured begun b.brings

  -- the list behind these entries has the values of the state
  has_behind : (rest : List Entry) (new : Kept) → Gains configured rest new → x.keeper_tells → Legal x.start → HasValues ((x.start ++ added) ++ (begun ++ rest)) new
  has_behind rest new gains =
      values_behind left x added kept feeds objects configured_at old standing (begun ++ rest) new (gains_then old configured new begun rest begins gains)

  has_front : (rest : List Entry) (new : Kept) → Gains configured rest new → x.keeper_tells → Legal x.start → HasValues (((x.start ++ added) ++ begun) ++ rest) new
  has_front rest new gains tells legal =
      subst (λ (list : List Entry). HasValues list new) (sym (append_assoc (x.start ++ added) begun rest)) (has_behind rest new gains tells legal)

  -- a source gives too much
  by_events : (new : Kept) → Overflows x.source_tells left faults which.Every x.given.records feeds nexts objects rests configured new → SpendsBehind in_turn x added moment
  by_events new o = record {
    own = begun ++ rest;
    legal = λ tells legal. (has_behind rest new gains tells legal).legal;
    spends = λ tells told legal. record {
      configured = b.anew;
      rest = rest;
      configures = b.configures tells legal;
      spends = inl (subst (λ (sources : List Source). StepsSpend x.given ((x.start ++ added) ++ begun) sources rest) (every_source x.given.sources)
          (overflow_spends x.source_tells left faults which.Every x.given feeds nexts objects rests configured new o x.start ((x.start ++ added) ++ begun) told b.at distinct (b.fed tells) (has_front rest new gains tells legal)));
      are = refl;
    };
  }
    where
      rest : List Entry
      rest = overflow_entries x.source_tells left faults which.Every x.given feeds nexts objects rests configured new o

      gains : Gains configured rest new
      gains =
          gains_of configured new rest (overflow_brings x.source_tells left faults which.Every x.given feeds nexts objects rests configured new o)

  -- each source had its turn, and no number is left for a batch
  by_batches : AreFree configured.claims → (filled : Kept) → Rounds x.source_tells left faults which.Every x.given.records feeds nexts objects rests configured filled → SpendsBatches filled → SpendsBehind in_turn x added moment
  by_batches unclaimed filled rounds spent = record {
    own = begun ++ (taken ++ answered);
    legal = λ tells legal. (has_behind (taken ++ answered) spent.between gains tells legal).legal;
    spends = λ tells told legal. record {
      configured = b.anew;
      rest = taken ++ answered;
      configures = b.configures tells legal;
      spends = inr (record {
        taken = taken;
        answered = answered;
        takes = (rounds_taken x.source_tells left faults x.given x.start ((x.start ++ added) ++ begun) configured.counts.moment feeds nexts objects rests rounds.turns told b.at (b.fed tells) distinct rounds.whole rounds.each).0;
        answers = answers tells legal;
        are = refl;
        beyond = subst (λ (count : ℕ). 2 ^ 62 < count + 1) (sym (ap (λ (c : Counts). c.batches) (has_front (taken ++ answered) spent.between gains tells legal).counts)) spent.beyond;
      });
      are = refl;
    };
  }
    where
      taken : List Entry
      taken = round_entries configured.counts.moment rounds.turns

      answered : List Entry
      answered = committed_all spent.batches

      gains : Gains configured (taken ++ answered) spent.between
      gains =
          gains_then configured filled spent.between taken answered (gains_of configured filled taken rounds.brings) (gains_of filled spent.between answered spent.brings)

      answers : x.keeper_tells → Legal x.start → AnswersFront (((x.start ++ added) ++ begun) ++ taken) answered
      answers tells legal =
          let free = rounds.brings.free unclaimed in
          let (place, due) = spent.due (spent.brings.free free) in
          let fills = gains_then old configured filled begun taken begins (gains_of configured filled taken rounds.brings) in
          let list : x.start ++ (added ++ (begun ++ taken)) ≡ ((x.start ++ added) ++ begun) ++ taken = sym (append_assoc x.start added (begun ++ taken)) ∙ sym (append_assoc (x.start ++ added) begun taken) in
          subst (λ (entries : List Entry). AnswersFront entries answered) list
          (answered_front standing.base x.start legal (standing.same tells) (added ++ (begun ++ taken)) filled spent.between spent.batches place (fills.stands standing.base added standing.stands) free spent.each spent.own spent.is due)

  -- an entry of a round is a part of a tick's body
  are_parts : (entries : List Entry) → All (λ (entry : Entry). is_work (names_of feeds) entry ≡ true) entries → x.keeper_tells → All (λ (entry : Entry). is_part x.given.sources entry ≡ true) entries
  are_parts entries work tells =
      All-weaker (λ (entry : Entry). is_work (names_of feeds) entry ≡ true) (λ (entry : Entry). is_part x.given.sources entry ≡ true)
      (work_part (names_of feeds) x.given.sources (fed_names x.source_tells left x.given.config.categories x.start ((x.start ++ added) ++ begun) x.given.sources feeds objects (b.fed tells))) entries work

  -- threads added these, and no number is left for a batch behind them
  by_batches_at_once : (filled : Kept) → WorksAtOnce x.source_tells left faults x.given.records feeds nexts objects rests configured filled → SpendsBatches filled → SpendsBehind at_once x added moment
  by_batches_at_once filled works spent = record {
    own = begun ++ rest;
    legal = λ tells legal. (has_behind rest spent.between gains tells legal).legal;
    spends = λ tells told legal. record {
      configured = b.anew;
      rest = rest;
      configures = b.configures tells legal;
      spends = record {
        parts = are_parts rest (All-append (λ (entry : Entry). is_work (names_of feeds) entry ≡ true) works.body (committed_all spent.batches) works.parts (batches_work (names_of feeds) spent.batches)) tells;
        spent = inr (subst (λ (count : ℕ). 2 ^ 62 < count + 1) (sym (ap (λ (c : Counts). c.batches) (has_front rest spent.between gains tells legal).counts)) spent.beyond);
      };
      are = refl;
    };
  }
    where
      rest : List Entry
      rest = works.body ++ committed_all spent.batches

      gains : Gains configured rest spent.between
      gains =
          gains_then configured filled spent.between works.body (committed_all spent.batches) works.gains (gains_of filled spent.between (committed_all spent.batches) spent.brings)

  -- and where no number is left among them
  by_work : SpendsAtOnce x.source_tells left x.given.records feeds nexts objects rests configured → SpendsBehind at_once x added moment
  by_work o = record {
    own = begun ++ o.added;
    legal = λ tells legal. (has_behind o.added o.between o.gains tells legal).legal;
    spends = λ tells told legal. record {
      configured = b.anew;
      rest = o.added;
      configures = b.configures tells legal;
      spends = record { parts = are_parts o.added o.parts tells; spent = by_kind tells told legal o.spent };
      are = refl;
    };
  }
    where
      too_much : x.keeper_tells → x.source_tells → Legal x.start → GivesTooMuch x.source_tells left x.given.records feeds nexts objects rests o.between → ReadingSpends x.given ((x.start ++ added) ++ begun) o.added
      too_much tells told legal g =
          let (source, among, fed) = fed_at x.source_tells left x.given.config.categories x.start ((x.start ++ added) ++ begun) x.given.sources feeds objects (b.fed tells) g.place g.feed g.source g.feed_there g.source_there in
          let has = has_front o.added o.between o.gains tells legal in
          record {
            source = source;
            is = among;
            done = entries_of g.feed.name configured.counts.moment g.done;
            next = entry_of g.feed.name configured.counts.moment g.reading;
            later = entries_of g.feed.name configured.counts.moment g.later;
            step = subst (TakesStep x.given ((x.start ++ added) ++ begun) source) (map-append (entry_of g.feed.name configured.counts.moment) g.done (g.reading ∷ g.later))
                (step_taken x.source_tells left x.start ((x.start ++ added) ++ begun) x.given source g.feed g.next g.source g.rest (g.done ++ g.reading ∷ g.later) fed g.gave configured.counts.moment told b.at);
            beyond =
                let numbers = has.image.last in
                let count = count_is g.feed.name configured.counts.moment g.reading in
                subst (λ (last : ℕ). 2 ^ 62 < last + length (events_in (entry_of g.feed.name configured.counts.moment g.reading))) numbers (subst (λ (events : ℕ). 2 ^ 62 < o.between.image.last + events) count g.beyond);
          }

      by_kind : x.keeper_tells → x.source_tells → Legal x.start → GivesTooMuch x.source_tells left x.given.records feeds nexts objects rests o.between ⊎ (2 ^ 62 < o.between.counts.batches + 1) → ReadingSpends x.given ((x.start ++ added) ++ begun) o.added ⊎ (2 ^ 62 < length (commits (((x.start ++ added) ++ begun) ++ o.added)) + 1)
      by_kind tells told legal (inl g) = inl (too_much tells told legal g)
      by_kind tells told legal (inr beyond) =
          inr (subst (λ (count : ℕ). 2 ^ 62 < count + 1) (sym (ap (λ (c : Counts). c.batches) (has_front o.added o.between o.gains tells legal).counts)) beyond)

  -- in either order
  batches_spend : (order : Order) → AreFree configured.claims → (filled : Kept) → RoundsIn order x.source_tells left faults x.given.records feeds nexts objects rests configured filled → SpendsBatches filled → SpendsBehind order x added moment
  batches_spend in_turn unclaimed filled rounds spent = by_batches unclaimed filled rounds spent
  batches_spend at_once unclaimed filled works spent = by_batches_at_once filled works spent

  round_spends : (order : Order) → (new : Kept) → SpendsIn order x.source_tells left faults x.given.records feeds nexts objects rests configured new → SpendsBehind order x added moment
  round_spends in_turn new o = by_events new o
  round_spends at_once new o = by_work o

module _ {S C : Type 0} (order : Order) (keeper_tells sink_tells tells : Type 0) (left : S → List ℕ) (faults : S → ℕ) (setup : Setup) (config : Config) (documents : List (List ℕ)) (sources : List S) (start : List Entry) (before : List ℕ) (link : Linked) (reads : C → ℕ → C → Type 0) (clock : C) where
  abbrev x : Fixed
  x = fixed_with order keeper_tells sink_tells tells left setup config documents sources start before link

  -- An opening spends no number, since a source of tables gives no event.
  pub spent_nowhere : (now : C) (reading : ℕ) (restored : Restored) (kept : List Entry) (rests : List S) → reads clock reading now → (keeper_tells → restored ≡ summary start) → (keeper_tells → kept ≡ start) → IsDistinct bytes_eq (source_names setup.sources) → IsOverfull tells left faults setup config restored sources rests → RanOutOfNumbers (run_by x reads clock now) kept
  spent_nowhere now reading restored kept rests read same kept_is distinct over = record {
    beats = [];
    polled = [];
    reading = reading;
    read = (now, read, refl);
    added = [];
    grows = record { grown = λ told. kept_is told ∙ sym (append-nil start); adds = λ told legal. refl; heard = λ told legal. heard_none x };
    quiet = λ without. refl;
    entries = [];
    legal = λ told legal. subst Legal (sym (append-nil kept ∙ kept_is told)) legal;
    spends = λ told gives legal. absurd (never told gives legal);
  }
    where
      o : Overflows tells left faults which.Tables setup.records over.started over.nexts over.between rests over.too_much.begun over.too_much.last
      o = over.too_much.overflows

      opened : List Entry
      opened = Opened (restored.sessions + 1) 2 ∷ []

      came : List Entry
      came = overflow_entries tells left faults which.Tables x.given over.started over.nexts over.between rests over.too_much.begun over.too_much.last o

      going : AreGoing restored.taken over.started
      going =
          all_going tells left faults restored.taken config.categories setup.sources over.starts.opened over.started sources over.between over.starts.of_sources over.starts.starts distinct

      fed : keeper_tells → AreFed tells left config.categories start (start ++ opened) x.given.sources over.started over.between
      fed told =
          fed_on tells left config.categories start start (start ++ opened) x.given.sources over.started over.between (nothing_behind start opened (opened_nothing (restored.sessions + 1) 2))
          (started_fed tells left faults config.categories start restored.taken setup.sources over.started sources over.between (λ name. ap (λ (r : Restored). offset_at r.taken name) (same told) ∙ taken_is start name) over.starts)

      at : keeper_tells → over.too_much.begun.counts.moment ≡ moment_of (start ++ opened)
      at told =
          ap (λ (c : Counts). c.moment) over.too_much.begins.counts ∙ ap (λ (r : Restored). r.moment) (same told) ∙ sym (last_of-append moment_in 0 start opened)

      has : keeper_tells → Legal start → HasValues ((start ++ opened) ++ came) over.too_much.last
      has told legal =
          subst (λ (list : List Entry). HasValues list over.too_much.last) (sym (append_assoc start opened came))
          (((overflow_brings tells left faults which.Tables x.given over.started over.nexts over.between rests over.too_much.begun over.too_much.last o).stands restored opened over.too_much.begins.stands).values start legal (sym (same told)))

      never : keeper_tells → tells → Legal start → ⊥
      never told gives legal =
          tables_keep x.given (start ++ opened) x.given.sources came
          (overflow_spends tells left faults which.Tables x.given over.started over.nexts over.between rests over.too_much.begun over.too_much.last o start (start ++ opened) gives (at told) going.distinct (fed told) (has told legal)) (has told legal).legal

  unclaimed : (configured_at moment : ℕ) (ticked configured : Kept) → AreFree ticked.claims → ConfiguresAgain (asks_again config configured_at moment) config documents setup.host moment ticked configured → AreFree configured.claims
  unclaimed configured_at moment ticked configured free again =
      (again_brings (asks_again config configured_at moment) config documents setup.host moment ticked configured again).free free

  tick_spends : (added kept : List Entry) (feeds nexts : List Feeding) (objects rests : List S) (configured_at moment : ℕ) (old new : Kept) → Standing left x added kept feeds objects configured_at old → IsDistinct bytes_eq (names_of feeds) → SpendsTick order tells left faults setup config documents configured_at moment feeds nexts objects rests old new → SpendsBehind order x added moment
  tick_spends added kept feeds nexts objects rests configured_at moment old new standing distinct (inl (filled, fills, spent)) =
      batches_spend left faults x added kept feeds nexts objects rests configured_at moment old fills.configured standing distinct (begins_tick left x added kept feeds objects configured_at old standing moment fills.ticked fills.configured fills.ticks fills.again) order (unclaimed configured_at moment fills.ticked fills.configured fills.free fills.again) filled fills.rounds spent
  tick_spends added kept feeds nexts objects rests configured_at moment old new standing distinct (inr fills) =
      round_spends left faults x added kept feeds nexts objects rests configured_at moment old fills.configured standing distinct (begins_tick left x added kept feeds objects configured_at old standing moment fills.ticked fills.configured fills.ticks fills.again) order new fills.overflows

  -- in the first tick
  pub spent_first : (now : C) (kept next : List Entry) (feeds nexts : List Feeding) (objects rests : List S) (opened_at : ℕ) (old new : Kept) → OpensSession left x reads clock now kept feeds objects opened_at old → IsDistinct bytes_eq (names_of feeds) → (keeper_tells → next ≡ start)
      → SpendsTick order tells left faults setup config documents opened_at opened_at feeds nexts objects rests old new → RanOutOfNumbers (run_by x reads clock now) next
  spent_first now kept next feeds nexts objects rests opened_at old new o distinct same spends = record {
    beats = [];
    polled = [];
    reading = o.reading;
    read = (now, o.read, refl);
    added = [];
    grows = record { grown = λ told. same told ∙ sym (append-nil start); adds = λ told legal. refl; heard = λ told legal. heard_none x };
    quiet = λ without. refl;
    entries = opening ++ s.own;
    legal = λ told legal. subst Legal (sym (ap (λ (list : List Entry). list ++ (opening ++ s.own)) (same told) ∙ sym (append_assoc start opening s.own))) (s.legal told legal);
    spends = λ told sources legal.
        subst (λ (list : List Entry). SpendsAt x.order x.source_tells x.given list [] [] o.reading (opening ++ s.own)) (sym (same told))
        (opening, s.own, o.opens told legal, subst (λ (m : ℕ). TickSpends x.order x.given (start ++ opening) m s.own) o.at (s.spends told sources legal), refl);
  }
    where
      opening : List Entry
      opening = Opened o.number 2 ∷ o.rest

      s : SpendsBehind order x (Opened o.number 2 ∷ o.rest) opened_at
      s = tick_spends (Opened o.number 2 ∷ o.rest) kept feeds nexts objects rests opened_at opened_at old new o.standing distinct spends

  -- in a further tick, behind what was heard
  pub spent_on : (between now : C) (kept next : List Entry) (feeds nexts : List Feeding) (objects rests : List S) (configured_at moment : ℕ) (old new : Kept) (r : IsAdded left x reads clock between kept feeds objects configured_at old) → IsDistinct bytes_eq (names_of feeds) → IsRead reads between now old.counts.moment moment → (keeper_tells → next ≡ kept)
      → (marks : List ℕ) (after : View) → HeardIn x kept marks r.linked after → (begun : Kept) × IsAcked old marks begun × SpendsTick order tells left faults setup config documents configured_at moment feeds nexts objects rests begun new → RanOutOfNumbers (run_by x reads clock now) next
  spent_on between now kept next feeds nexts objects rests configured_at moment old new r distinct read same marks after heard (begun, acked, spends) = record {
    beats = r.beats ++ at_beat r.reading [] ∷ [];
    polled = heard.found;
    reading = read.reading;
    read = reads_more reads clock between now (readings_of (r.beats ++ at_beat r.reading [] ∷ [])) read.reading (read_all left x reads clock between kept feeds objects configured_at old r) read.reads_it;
    added = r.entries;
    grows = record { grown = list_is; adds = grown.adds; heard = grown.heard };
    quiet = λ off. (heard.quiet off).0;
    entries = map Acked marks ++ s.own;
    legal = λ told legal. subst Legal (ap (λ (list : List Entry). list ++ s.own) (sym (append_assoc x.start r.entries (map Acked marks))) ∙ append_assoc (x.start ++ r.entries) (map Acked marks) s.own ∙ ap (λ (list : List Entry). list ++ (map Acked marks ++ s.own)) (sym (list_is told))) (s.legal told legal);
    spends = λ told sources legal.
        spends_behind x.order x.source_tells x.given next r.beats (at_beat r.reading []) heard.found read.reading (map Acked marks ++ s.own)
        (s.own, subst (λ (list : List Entry). TickSpends x.order x.given list (max read.reading (moment_of next)) s.own) (behind told legal) (subst (λ (m : ℕ). TickSpends x.order x.given (x.start ++ (r.entries ++ map Acked marks)) m s.own) (at told legal) (s.spends told sources legal)), ap (λ (es : List Entry). es ++ s.own) (acks_are told legal));
  }
    where
      s : SpendsBehind order x (r.entries ++ map Acked marks) moment
      s = tick_spends (r.entries ++ map Acked marks) kept feeds nexts objects rests configured_at moment begun new (acked_standing left x r.entries kept feeds objects configured_at old begun marks r.standing acked) distinct spends

      grown : Grows x kept (r.beats ++ at_beat r.reading [] ∷ []) r.entries
      grown = grows left x reads clock between kept feeds objects configured_at old r

      list_is : keeper_tells → next ≡ x.start ++ r.entries
      list_is told = same told ∙ all_kept left x r.entries kept feeds objects configured_at old r.standing r.empty told

      acks_are : keeper_tells → Legal start → map Acked marks ≡ acks_of next heard.found
      acks_are told legal = heard_acks left x reads clock between kept feeds objects configured_at old r marks after heard told legal ∙ ap (λ (list : List Entry). acks_of list heard.found) (sym (list_is told))

      behind : keeper_tells → Legal start → x.start ++ (r.entries ++ map Acked marks) ≡ next ++ acks_of next heard.found
      behind told legal = sym (append_assoc x.start r.entries (map Acked marks)) ∙ ap (λ (list : List Entry). list ++ map Acked marks) (sym (list_is told)) ∙ ap (λ (es : List Entry). next ++ es) (acks_are told legal)

      at : keeper_tells → Legal start → moment ≡ max read.reading (moment_of next)
      at told legal = read.is ∙ ap (max read.reading) (sym (ap moment_of (list_is told) ∙ moment_is left x r.entries kept feeds objects configured_at old r.standing told legal))
