-- A tick by the state is a tick by the list.
use Rattle.std.proofs.Common.{◌≡◌, ℕ, List, [], ◌∷◌, ◌++◌, refl, sym, ap, ◌∙◌, subst, append_assoc}
use Rattle.std.specs.Prelude.{bytes_eq, All, true}
use Rattle.std.proofs.lemmas.List.Elements.{All-append, All-weaker}
use Rattle.osq_config.specs.declared.config.Config.{Config}
use Rattle.pack_rules.specs.declared.host.Host.{Host}
use Rattle.pack_rules.specs.declared.schedule.Schedule.{Schedule}
use Rattle.source_feeds.specs.Feeding.{Feeding}
use Rattle.entry_model.specs.declared.entry.Entry.{Entry}
use Rattle.entry_model.specs.declared.entry.Entry.TheVariants.{Ticked}
use Rattle.entry_model.specs.Fits.{IsDistinct}
use Rattle.entry_model.specs.Legal.{Legal}
use Rattle.entry_model.specs.Values.{last_of, schedule_in}
use Rattle.entry_model.specs.Views.{due_queries}
use Rattle.entry_model.proofs.Lasts.{last_of-append}
use Rattle.session_model.specs.Configuring.{configured_in}
use Rattle.session_model.specs.Ticking.{Answers, Ticks, expiries_of}
use Rattle.session_state.specs.Kept.{Kept}
use Rattle.session_state.proofs.Dues.{none_due}
use Rattle.daemon_rounds.specs.Adding.{AreFree}
use Rattle.daemon_rounds.specs.Answering.{committed_all}
use Rattle.daemon_rounds.specs.Keeping.{Settles}
use Rattle.daemon_rounds.specs.Rounding.{Rounds, names_of, round_entries}
use Rattle.daemon_rounds.specs.Ticking.{ConfiguresAgain, asks_again, configured_last}
use Rattle.daemon_rounds.specs.declared.setup.Setup.{Setup}
use Rattle.daemon_rounds.specs.declared.turning.Which.TheVariants as which
use Rattle.daemon_rounds.proofs.Adding.{gains_of, gains_then}
use Rattle.replay_rounds.specs.Fixed.{Fixed}
use Rattle.replay_rounds.specs.OneTick.{IsOneTick}
use Rattle.replay_rounds.specs.Sources.{AreFed}
use Rattle.replay_rounds.specs.Standing.{Standing}
use Rattle.replay_rounds.specs.Ticked.{TakesTick, TickDone}
use Rattle.replay_rounds.proofs.Answered.{answered_are, expired_are}
use Rattle.replay_rounds.proofs.Begins.{BeginsTick, begins_tick, values_behind}
use Rattle.replay_rounds.proofs.Feeds.{fed_on, fed_names}
use Rattle.replay_rounds.proofs.Nothing.{nothing_behind, settled_nothing}
use Rattle.replay_rounds.proofs.Stepped.{fed_after, rounds_full, rounds_given, feeds_of, objects_of, of_turns, rests_of}
use Rattle.replay_rounds.proofs.Ticks.{NoTick, settled_tickless}
use Rattle.replay_rounds.proofs.Unconfigured.{settled_unconfigured, unconfigured-append}
use Rattle.replay_rounds.proofs.Undue.{none_between}
use Rattle.replay_rounds.specs.FullTicks.{AreFullParts, IsFullTick}
use Rattle.replay_rounds.proofs.Rounds.{Gives, IsPlain, gives_at_once, gives_in_turn, plain_tickless, plain_unconfigured, work_plain}
use Rattle.session_model.specs.Orders.{Order, TicksIn, at_once, in_turn}
use Rattle.daemon_rounds.specs.AtOnce.{Gains, IsReadingOf, WorksAtOnce, is_work}
use Rattle.daemon_rounds.specs.Orders.{RoundsIn}
use Rattle.daemon_rounds.specs.Turns.{Turn}
use Rattle.session_state.specs.StateOf.{HasValues}
use Rattle.session_model.specs.Taking.{from_source}
use Rattle.session_model.specs.Working.{Passes, Works, is_part}
use Rattle.std.specs.List.{AllZip}
use Rattle.entry_model.proofs.Follows.{Follow-split}
use Rattle.replay_rounds.proofs.Again.{again_brings}
use Rattle.replay_rounds.proofs.AtOnce.{IsAt, all_at, batches_behind, batches_work, body_fed, body_full, body_given, work_part}

-- a tick whose round gave these entries, in whatever order
module _ {S : Type 0} (left : S → List ℕ) (faults : S → ℕ) (x : Fixed) (added kept : List Entry) (feeds nexts : List Feeding) (objects rests : List S) (configured_at moment : ℕ) (old configured filled settled : Kept) (standing : Standing left x added kept feeds objects configured_at old)
    (begins : BeginsTick left x added feeds objects configured_at moment old configured) (round : Gives x.source_tells left faults x.given.records feeds nexts objects rests configured filled) (settles : Settles filled settled)
    (fed_body : x.keeper_tells → AreFed x.source_tells left x.given.config.categories x.start (((x.start ++ added) ++ (Ticked moment ∷ begins.anew)) ++ round.body) x.given.sources nexts rests) where
  -- the tick's first entries
  abbrev begun : List Entry
  begun = Ticked moment ∷ begins.anew

  abbrev answered : List Entry
  answered = committed_all settles.batches

  abbrev own : List Entry
  own = begun ++ round.body ++ answered ++ settles.expired

  fills : Gains old (begun ++ round.body) filled
  fills = gains_then old configured filled begun round.body (gains_of old configured begun begins.brings) round.gains

  answers : Gains old (begun ++ round.body ++ answered) settles.between
  answers =
      gains_then old filled settles.between (begun ++ round.body) answered fills (gains_of filled settles.between answered settles.answers)

  gained : Gains old own settled
  gained =
      subst (λ (es : List Entry). Gains old es settled) (sym (append_assoc (begun ++ round.body) answered settles.expired))
      (gains_then old filled settled (begun ++ round.body) (answered ++ settles.expired) fills (gains_of filled settled (answered ++ settles.expired) settles.brings))

  own_is : own ≡ begun ++ (round.body ++ (answered ++ settles.expired))
  own_is =
      append_assoc (begun ++ round.body) answered settles.expired ∙ append_assoc begun round.body (answered ++ settles.expired)

  -- no other tick begins among them
  own_one : IsOneTick own
  own_one =
      subst IsOneTick (sym own_is) (refl, All-append NoTick begins.anew (round.body ++ (answered ++ settles.expired)) begins.tickless (All-append NoTick round.body (answered ++ settles.expired) (plain_tickless round.body round.plain) (settled_tickless filled settled settles)))

  -- when the session was configured last
  own_configured : last_of configured_in configured_at own ≡ configured_last (asks_again x.given.config configured_at moment) configured_at moment
  own_configured =
      ap (last_of configured_in configured_at) own_is ∙ last_of-append configured_in configured_at begun (round.body ++ (answered ++ settles.expired)) ∙ unconfigured-append round.body (answered ++ settles.expired) (plain_unconfigured round.body round.plain) (settled_unconfigured filled settled settles) (last_of configured_in configured_at begun) ∙ begins.last

  module _ (tells : x.keeper_tells) where
    all_is : (((x.start ++ added) ++ begun) ++ round.body) ++ (answered ++ settles.expired) ≡ x.start ++ (added ++ own)
    all_is =
        ap (λ (list : List Entry). list ++ (answered ++ settles.expired)) (append_assoc (x.start ++ added) begun round.body) ∙ append_assoc (x.start ++ added) (begun ++ round.body) (answered ++ settles.expired) ∙ append_assoc x.start added ((begun ++ round.body) ++ (answered ++ settles.expired))
        ∙ ap (λ (es : List Entry). x.start ++ (added ++ es)) (sym (append_assoc (begun ++ round.body) answered settles.expired))

    fed_own : AreFed x.source_tells left x.given.config.categories x.start (x.start ++ (added ++ own)) x.given.sources nexts rests
    fed_own =
        subst (λ (list : List Entry). AreFed x.source_tells left x.given.config.categories x.start list x.given.sources nexts rests) all_is (fed_on x.source_tells left x.given.config.categories x.start (((x.start ++ added) ++ begun) ++ round.body) ((((x.start ++ added) ++ begun) ++ round.body) ++ (answered ++ settles.expired)) x.given.sources nexts rests (nothing_behind (((x.start ++ added) ++ begun) ++ round.body) (answered ++ settles.expired) (settled_nothing filled settled settles)) (fed_body tells))

    module _ (legal : Legal x.start) where
      has_answered : HasValues ((x.start ++ added) ++ (begun ++ round.body ++ answered)) settles.between
      has_answered =
          values_behind left x added kept feeds objects configured_at old standing (begun ++ round.body ++ answered) settles.between answers tells legal

      expires : settles.expired ≡ expiries_of ((x.start ++ added) ++ (begun ++ round.body ++ answered))
      expires = settles.are ∙ expired_are ((x.start ++ added) ++ (begun ++ round.body ++ answered)) settles.between has_answered

      answered_none : due_queries ((x.start ++ added) ++ (begun ++ round.body ++ answered)) ≡ []
      answered_none =
          none_due ((x.start ++ added) ++ (begun ++ round.body ++ answered)) settles.between has_answered settles.is.runs (none_between filled settled settles)

  stands : (last : ℕ) → last ≡ configured_last (asks_again x.given.config configured_at moment) configured_at moment → Standing left x (added ++ own) kept nexts rests last settled
  stands last last_is = record {
    base = standing.base;
    same = standing.same;
    stands = gained.stands standing.base added standing.stands;
    sealed = standing.sealed;
    parts = ap (λ (es : List Entry). es ++ own) standing.parts ∙ append_assoc standing.sealed old.tail own ∙ ap (λ (tail : List Entry). standing.sealed ++ tail) (sym gained.tail);
    list = standing.list;
    configured = λ before. last_of-append configured_in before added own ∙ ap (λ (at : ℕ). last_of configured_in at own) (standing.configured before) ∙ own_configured ∙ sym last_is;
    schedule = λ before. last_of-append schedule_in before added own ∙ ap (λ (schedule : Schedule). last_of schedule_in schedule own) (standing.schedule before) ∙ sym gained.schedule;
    fed = fed_own;
  }

  -- by the list it is a tick, where it is one in the session's order
  takes : (last : ℕ) → last ≡ configured_last (asks_again x.given.config configured_at moment) configured_at moment → (order : Order) → x.order ≡ order → (x.keeper_tells → Legal x.start → TicksIn order x.source_tells x.given (x.start ++ added) moment own) → (x.keeper_tells → x.source_tells → Legal x.start → IsFullTick order x.source_tells x.given (x.start ++ added) moment nexts own)
      → TakesTick left x added kept nexts rests last moment old settled
  takes last last_is order same ticks full = record {
    own = own;
    ticks = λ tells legal. subst (λ (order : Order). TicksIn order x.source_tells x.given (x.start ++ added) moment own) (sym same) (ticks tells legal);
    full = λ tells told legal. subst (λ (order : Order). IsFullTick order x.source_tells x.given (x.start ++ added) moment nexts own) (sym same) (full tells told legal);
    one = own_one;
    standing = stands last last_is;
    tail = gained.tail;
  }

-- one source after another
module _ {S : Type 0} (left : S → List ℕ) (faults : S → ℕ) (x : Fixed) (added kept : List Entry) (feeds nexts : List Feeding) (objects rests : List S) (configured_at moment : ℕ) (old configured filled settled : Kept) (standing : Standing left x added kept feeds objects configured_at old) (distinct : IsDistinct bytes_eq (names_of feeds))
    (begins : BeginsTick left x added feeds objects configured_at moment old configured) (free : AreFree configured.claims) (rounds : Rounds x.source_tells left faults which.Every x.given.records feeds nexts objects rests configured filled) (settles : Settles filled settled) where
  abbrev turned : Gives x.source_tells left faults x.given.records feeds nexts objects rests configured filled
  turned = gives_in_turn x.source_tells left faults x.given.records feeds nexts objects rests configured filled rounds

  abbrev started : List Entry
  started = Ticked moment ∷ begins.anew

  -- the entries of its round
  abbrev taken : List Entry
  taken = round_entries configured.counts.moment rounds.turns

  fed_taken : x.keeper_tells → AreFed x.source_tells left x.given.config.categories x.start (((x.start ++ added) ++ started) ++ taken) x.given.sources nexts rests
  fed_taken tells =
      fed_after x.source_tells left faults x.given x.start ((x.start ++ added) ++ started) configured.counts.moment feeds nexts objects rests rounds.turns which.Every (begins.fed tells) distinct rounds.whole rounds.each

  module _ (tells : x.keeper_tells) (legal : Legal x.start) where
    answers_due : Answers ((x.start ++ added) ++ (started ++ taken)) (due_queries ((x.start ++ added) ++ (started ++ taken))) (committed_all settles.batches)
    answers_due =
        let filling = fills left faults x added kept feeds nexts objects rests configured_at moment old configured filled settled standing begins turned settles fed_taken in
        subst (λ (list : List Entry). Answers list (due_queries list) (committed_all settles.batches)) (sym (append_assoc x.start added (started ++ taken)))
        (answered_are standing.base x.start legal (standing.same tells) (added ++ (started ++ taken)) filled settles.between settles.batches (filling.stands standing.base added standing.stands) (rounds.brings.free free) settles.each settles.own settles.is (none_between filled settled settles))

    ticks_in_turn : Ticks x.source_tells x.given (x.start ++ added) moment (started ++ taken ++ committed_all settles.batches ++ settles.expired)
    ticks_in_turn = record {
      configured = begins.anew;
      taken = taken;
      answered = committed_all settles.batches;
      configures = begins.configures tells legal;
      takes = rounds_given x.source_tells left faults x.given x.start ((x.start ++ added) ++ started) configured.counts.moment feeds nexts objects rests rounds.turns begins.at (begins.fed tells) distinct rounds.whole rounds.each;
      answers = answers_due;
      none = answered_none left faults x added kept feeds nexts objects rests configured_at moment old configured filled settled standing begins turned settles fed_taken tells legal;
      are = ap (λ (es : List Entry). started ++ taken ++ committed_all settles.batches ++ es) (expires left faults x added kept feeds nexts objects rests configured_at moment old configured filled settled standing begins turned settles fed_taken tells legal);
    }

    full_in_turn : x.source_tells → IsFullTick in_turn x.source_tells x.given (x.start ++ added) moment nexts (started ++ taken ++ committed_all settles.batches ++ settles.expired)
    unfolding ticks_in_turn
    full_in_turn told =
        (ticks_in_turn, rounds_full x.source_tells left faults x.given x.start ((x.start ++ added) ++ started) configured.counts.moment feeds nexts objects rests rounds.turns told begins.at (begins.fed tells) distinct rounds.whole rounds.each)

  takes_in_turn : x.order ≡ in_turn → (last : ℕ) → last ≡ configured_last (asks_again x.given.config configured_at moment) configured_at moment → TakesTick left x added kept nexts rests last moment old settled
  takes_in_turn same last last_is =
      takes left faults x added kept feeds nexts objects rests configured_at moment old configured filled settled standing begins turned settles fed_taken last last_is in_turn same ticks_in_turn (λ tells told legal. full_in_turn tells legal told)

-- all at once
module _ {S : Type 0} (left : S → List ℕ) (faults : S → ℕ) (x : Fixed) (added kept : List Entry) (feeds nexts : List Feeding) (objects rests : List S) (configured_at moment : ℕ) (old configured filled settled : Kept) (standing : Standing left x added kept feeds objects configured_at old)
    (begins : BeginsTick left x added feeds objects configured_at moment old configured) (works : WorksAtOnce x.source_tells left faults x.given.records feeds nexts objects rests configured filled) (settles : Settles filled settled) where
  abbrev worked : Gives x.source_tells left faults x.given.records feeds nexts objects rests configured filled
  worked = gives_at_once x.source_tells left faults x.given.records feeds nexts objects rests configured filled works

  abbrev front : List Entry
  front = (x.start ++ added) ++ (Ticked moment ∷ begins.anew)

  -- what the threads added, and what was left due
  abbrev body : List Entry
  body = works.body ++ committed_all settles.batches

  turns_fed : x.keeper_tells → AreFed x.source_tells left x.given.config.categories x.start front x.given.sources (feeds_of works.turns) (objects_of works.turns)
  turns_fed tells =
      of_turns x.source_tells left faults x.given x.start front configured.counts.moment feeds nexts objects rests works.turns (begins.fed tells) works.whole

  fed_works : x.keeper_tells → AreFed x.source_tells left x.given.config.categories x.start (front ++ works.body) x.given.sources nexts rests
  fed_works tells =
      subst (λ (rests : List S). AreFed x.source_tells left x.given.config.categories x.start (front ++ works.body) x.given.sources nexts rests) (sym works.whole.rests_are)
      (subst (λ (nexts : List Feeding). AreFed x.source_tells left x.given.config.categories x.start (front ++ works.body) x.given.sources nexts (rests_of works.turns)) (sym works.whole.nexts_are)
      (body_fed x.source_tells left faults x.start front works.body configured.counts.moment x.given.config.categories x.given.records x.given.sources works.turns works.each works.own (turns_fed tells)))

  own_body : All (λ (turn : Turn S). AllZip (IsReadingOf turn.feed.name) turn.readings (from_source turn.feed.name body)) works.turns
  own_body =
      All-weaker (λ (turn : Turn S). AllZip (IsReadingOf turn.feed.name) turn.readings (from_source turn.feed.name works.body)) (λ (turn : Turn S). AllZip (IsReadingOf turn.feed.name) turn.readings (from_source turn.feed.name body))
      (λ turn own. subst (AllZip (IsReadingOf turn.feed.name) turn.readings) (sym (batches_behind turn.feed.name works.body settles.batches)) own) works.turns works.own

  work_body : All (λ (entry : Entry). is_work (names_of feeds) entry ≡ true) body
  work_body =
      All-append (λ (entry : Entry). is_work (names_of feeds) entry ≡ true) works.body (committed_all settles.batches) works.parts (batches_work (names_of feeds) settles.batches)

  parts_are : ((Ticked moment ∷ begins.anew) ++ works.body) ++ committed_all settles.batches ≡ (Ticked moment ∷ begins.anew) ++ body
  parts_are = append_assoc (Ticked moment ∷ begins.anew) works.body (committed_all settles.batches)

  module _ (tells : x.keeper_tells) (legal : Legal x.start) where
    list_is : (x.start ++ added) ++ (((Ticked moment ∷ begins.anew) ++ works.body) ++ committed_all settles.batches) ≡ front ++ body
    list_is =
        ap (λ (es : List Entry). (x.start ++ added) ++ es) parts_are ∙ sym (append_assoc (x.start ++ added) (Ticked moment ∷ begins.anew) body)

    -- each entry of the body has the tick's moment
    body_at : All (IsAt configured.counts.moment) body
    body_at =
        let has = has_answered left faults x added kept feeds nexts objects rests configured_at moment old configured filled settled standing begins worked settles fed_works tells legal in
        let plain = All-weaker (λ (entry : Entry). is_work (names_of feeds) entry ≡ true) IsPlain (work_plain (names_of feeds)) body work_body in
        all_at front body configured.counts.moment (sym begins.at) plain (Follow-split [] front body (subst Legal list_is has.legal)).1

    works_at_once : Works x.source_tells x.given front body
    works_at_once = record {
      takes = body_given x.source_tells left faults x.start front body configured.counts.moment x.given begins.at body_at x.given.sources works.turns works.each own_body (turns_fed tells);
      parts = All-weaker (λ (entry : Entry). is_work (names_of feeds) entry ≡ true) (λ (entry : Entry). is_part x.given.sources entry ≡ true) (work_part (names_of feeds) x.given.sources (fed_names x.source_tells left x.given.config.categories x.start front x.given.sources feeds objects (begins.fed tells))) body work_body;
      answered = sym (ap due_queries list_is) ∙ answered_none left faults x added kept feeds nexts objects rests configured_at moment old configured filled settled standing begins worked settles fed_works tells legal;
    }

    passes_at_once : Passes x.source_tells x.given (x.start ++ added) moment ((Ticked moment ∷ begins.anew) ++ works.body ++ committed_all settles.batches ++ settles.expired)
    passes_at_once = record {
      configured = begins.anew;
      body = body;
      configures = begins.configures tells legal;
      works = works_at_once;
      are = ap (λ (es : List Entry). (((Ticked moment ∷ begins.anew) ++ works.body) ++ committed_all settles.batches) ++ es) (expires left faults x added kept feeds nexts objects rests configured_at moment old configured filled settled standing begins worked settles fed_works tells legal)
          ∙ ap (λ (es : List Entry). es ++ expiries_of ((x.start ++ added) ++ es)) parts_are;
    }

    full_at_once : x.source_tells → IsFullTick at_once x.source_tells x.given (x.start ++ added) moment nexts ((Ticked moment ∷ begins.anew) ++ works.body ++ committed_all settles.batches ++ settles.expired)
    unfolding passes_at_once
    full_at_once told = (
      passes_at_once,
      subst (AreFullParts x.given front body x.given.sources) (sym works.whole.nexts_are) (body_full x.source_tells left faults x.start front body configured.counts.moment x.given begins.at body_at told x.given.sources works.turns works.each own_body (turns_fed tells)),
    )

  takes_at_once : x.order ≡ at_once → (last : ℕ) → last ≡ configured_last (asks_again x.given.config configured_at moment) configured_at moment → TakesTick left x added kept nexts rests last moment old settled
  takes_at_once same last last_is =
      takes left faults x added kept feeds nexts objects rests configured_at moment old configured filled settled standing begins worked settles fed_works last last_is at_once same passes_at_once (λ tells told legal. full_at_once tells legal told)

-- a tick of a session that was given this configuration, on this host, with steps of so many records
pub takes_tick : {S : Type 0} (left : S → List ℕ) (faults : S → ℕ) (x : Fixed) (setup : Setup) (config : Config) (documents : List (List ℕ)) (added kept : List Entry) (feeds nexts : List Feeding) (objects rests : List S) (configured_at last moment : ℕ) (old settled : Kept) → x.given.config ≡ config → x.given.documents ≡ documents → x.given.host ≡ setup.host → x.given.records ≡ setup.records → Standing left x added kept feeds objects configured_at old → IsDistinct bytes_eq (names_of feeds)
    → TickDone x.order x.source_tells left faults setup config documents configured_at moment feeds nexts objects rests old settled → last ≡ configured_last (asks_again config configured_at moment) configured_at moment → TakesTick left x added kept nexts rests last moment old settled
takes_tick {S} left faults x setup config documents added kept feeds nexts objects rests configured_at last moment old settled config_is documents_are host_is records_are standing distinct done last_is =
    by_order x.order refl rounds
  where
    again : ConfiguresAgain (asks_again x.given.config configured_at moment) x.given.config x.given.documents x.given.host moment done.fills.ticked done.fills.configured
    again =
        subst (λ (host : Host). ConfiguresAgain (asks_again x.given.config configured_at moment) x.given.config x.given.documents host moment done.fills.ticked done.fills.configured) (sym host_is)
        (subst (λ (documents : List (List ℕ)). ConfiguresAgain (asks_again x.given.config configured_at moment) x.given.config documents setup.host moment done.fills.ticked done.fills.configured) (sym documents_are)
        (subst (λ (config : Config). ConfiguresAgain (asks_again config configured_at moment) config documents setup.host moment done.fills.ticked done.fills.configured) (sym config_is) done.fills.again))

    rounds : RoundsIn x.order x.source_tells left faults x.given.records feeds nexts objects rests done.fills.configured done.filled
    rounds =
        subst (λ (most : ℕ). RoundsIn x.order x.source_tells left faults most feeds nexts objects rests done.fills.configured done.filled) (sym records_are) done.fills.rounds

    begins : BeginsTick left x added feeds objects configured_at moment old done.fills.configured
    begins = begins_tick left x added kept feeds objects configured_at old standing moment done.fills.ticked done.fills.configured done.fills.ticks again

    free : AreFree done.fills.configured.claims
    free =
        (again_brings (asks_again config configured_at moment) config documents setup.host moment done.fills.ticked done.fills.configured done.fills.again).free done.fills.free

    last_so : last ≡ configured_last (asks_again x.given.config configured_at moment) configured_at moment
    last_so = last_is ∙ ap (λ (config : Config). configured_last (asks_again config configured_at moment) configured_at moment) (sym config_is)

    by_order : (order : Order) → x.order ≡ order → RoundsIn order x.source_tells left faults x.given.records feeds nexts objects rests done.fills.configured done.filled → TakesTick left x added kept nexts rests last moment old settled
    by_order in_turn same rounds =
        takes_in_turn left faults x added kept feeds nexts objects rests configured_at moment old done.fills.configured done.filled settled standing distinct begins free rounds done.settles same last last_so
    by_order at_once same works =
        takes_at_once left faults x added kept feeds nexts objects rests configured_at moment old done.fills.configured done.filled settled standing begins works done.settles same last last_so
