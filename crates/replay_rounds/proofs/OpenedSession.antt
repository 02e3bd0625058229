-- A session that opened by the state opened by the list.
use Rattle.std.proofs.Common.{◌≡◌, ℕ, ◌+◌, List, [], ◌∷◌, ◌++◌, Some, refl, sym, ap, ◌∙◌, subst, append_assoc, arith}
use Rattle.std.specs.Prelude.{All, bytes_eq, filter, max}
use Rattle.std.proofs.lemmas.List.{append-nil}
use Rattle.std.proofs.lemmas.List.Elements.{All-append, All-cons, All-nil}
use Rattle.osq_config.specs.declared.config.Config.{Config}
use Rattle.pack_rules.specs.declared.host.Host.{Host}
use Rattle.source_feeds.specs.Feeding.{Feeding}
use Rattle.entry_model.specs.declared.entry.Entry.{Entry}
use Rattle.entry_model.specs.declared.entry.Entry.TheVariants.{Configured, Opened}
use Rattle.entry_model.specs.declared.restored.Restored.{Restored}
use Rattle.entry_model.specs.Fits.{IsDistinct}
use Rattle.entry_model.specs.Legal.{Legal}
use Rattle.entry_model.specs.Next.{offset_at}
use Rattle.entry_model.specs.Summary.{summary}
use Rattle.entry_model.specs.Values.{moment_in, moment_of, schedule_in, sessions}
use Rattle.entry_model.proofs.Lasts.{last_of-append}
use Rattle.entry_model.proofs.Summaries.{taken_is}
use Rattle.session_model.specs.Configuring as configuring
use Rattle.session_model.specs.Configuring.{configured_in}
use Rattle.session_model.specs.Given.{Source}
use Rattle.session_model.specs.Sessions as session
use Rattle.session_model.specs.Sessions.{is_tables}
use Rattle.session_model.specs.Taking.{GivesSteps}
use Rattle.session_state.specs.Kept.{Counts, Kept}
use Rattle.session_state.specs.StateOf.{IsStateOf}
use Rattle.daemon_rounds.specs.Moments.{IsRead}
use Rattle.daemon_rounds.specs.Opening.{Opens}
use Rattle.daemon_rounds.specs.Rounding.{AreGoing, names_of, round_entries}
use Rattle.daemon_rounds.specs.Session.{IsOpen}
use Rattle.daemon_rounds.specs.Starting.{IsStarted, source_names}
use Rattle.daemon_rounds.specs.Telling.{AreTellable}
use Rattle.daemon_rounds.specs.declared.setup.Setup.{Setup}
use Rattle.daemon_rounds.specs.declared.turning.Which.TheVariants as which
use Rattle.daemon_rounds.proofs.Opened.{none_due_yet, none_owed_yet}
use Rattle.daemon_rounds.proofs.Started.{all_going}
use Rattle.replay_rounds.specs.Fixed.{Fixed}
use Rattle.replay_rounds.specs.Noting.{configurations}
use Rattle.replay_rounds.specs.Sources.{AreFed, sources_of}
use Rattle.replay_rounds.specs.Standing.{IsReady, Standing}
use Rattle.replay_rounds.proofs.Begun.{started_fed}
use Rattle.replay_rounds.proofs.Counted.{configurations-append, round_none}
use Rattle.replay_rounds.proofs.Feeds.{fed_on}
use Rattle.replay_rounds.proofs.Nothing.{configured_nothing, nothing_behind, opened_nothing}
use Rattle.replay_rounds.proofs.Stepped.{fed_after, tables_given}
use Rattle.replay_rounds.proofs.Ticks.{NoBatch, round_batchless}

-- By the list: the session added these entries, which open it at this reading of the clock; and its first tick may begin.
pub record OpensSession {S C : Type 0} (left : S → List ℕ) (x : Fixed) (reads : C → ℕ → C → Type 0) (clock now : C) (kept : List Entry) (feeds : List Feeding) (objects : List S) (moment : ℕ) (s : Kept) : Type 0 where
  pub reading : ℕ
  pub read : reads clock reading now
  pub number : ℕ
  pub rest : List Entry
  pub opens : x.keeper_tells → Legal x.start → session.Opens x.source_tells x.given x.start reading (Opened number 2 ∷ rest)
  pub at : moment ≡ max reading (moment_of (x.start ++ (Opened number 2 ∷ rest)))
  pub standing : Standing left x (Opened number 2 ∷ rest) kept feeds objects moment s
  pub tail : s.tail ≡ Opened number 2 ∷ rest
  pub silent : All NoBatch (Opened number 2 ∷ rest)
  pub once : configurations (Opened number 2 ∷ rest) ≡ 1
  pub tables : List Entry
  pub configured : Entry
  pub rest_is : rest ≡ tables ++ configured ∷ []
  pub none : configurations (Opened number 2 ∷ tables) ≡ 0
  pub configures : configured_in configured ≡ Some moment
  pub ready : AreGoing s.counts.taken feeds → IsReady feeds moment s

module _ {S : Type 0} (left : S → List ℕ) (faults : S → ℕ) (x : Fixed) (setup : Setup) (restored : Restored) (kept : List Entry) (started feeds : List Feeding) (objects between rests : List S) (moment : ℕ) (state : Kept) (same : x.keeper_tells → restored ≡ summary x.start) (distinct : IsDistinct bytes_eq (source_names setup.sources)) (sources_are : x.given.sources ≡ sources_of left setup.sources objects)
    (starts : IsStarted x.source_tells left faults restored.taken x.given.config.categories setup.sources started objects between) (opens : Opens x.source_tells left faults x.given.records restored x.given.config x.given.documents x.given.host moment started feeds between rests state) where
  abbrev opened : Entry
  opened = Opened (restored.sessions + 1) 2

  -- what the tables gave
  abbrev tables : List Entry
  tables = round_entries restored.moment opens.tables.turns

  abbrev configured : Entry
  configured = Configured x.given.documents opens.configures.schedule moment

  abbrev entries : List Entry
  entries = opened ∷ tables ++ configured ∷ []

  names_distinct : IsDistinct bytes_eq (names_of started)
  names_distinct =
      (all_going x.source_tells left faults restored.taken x.given.config.categories setup.sources starts.opened started objects between starts.of_sources starts.starts distinct).distinct

  module _ (tells : x.keeper_tells) where
    fed_started : AreFed x.source_tells left x.given.config.categories x.start x.start x.given.sources started between
    fed_started =
        subst (λ (sources : List Source). AreFed x.source_tells left x.given.config.categories x.start x.start sources started between) (sym sources_are) (started_fed x.source_tells left faults x.given.config.categories x.start restored.taken setup.sources started objects between (λ name. ap (λ (r : Restored). offset_at r.taken name) (same tells) ∙ taken_is x.start name) starts)

    fed_opened : AreFed x.source_tells left x.given.config.categories x.start (x.start ++ opened ∷ []) x.given.sources started between
    fed_opened =
        fed_on x.source_tells left x.given.config.categories x.start x.start (x.start ++ opened ∷ []) x.given.sources started between (nothing_behind x.start (opened ∷ []) (opened_nothing (restored.sessions + 1) 2)) fed_started

    fed_tables : AreFed x.source_tells left x.given.config.categories x.start ((x.start ++ opened ∷ []) ++ tables) x.given.sources feeds rests
    fed_tables =
        fed_after x.source_tells left faults x.given x.start (x.start ++ opened ∷ []) restored.moment started feeds between rests opens.tables.turns which.Tables fed_opened names_distinct opens.tables.whole opens.tables.each

    all_is : ((x.start ++ opened ∷ []) ++ tables) ++ configured ∷ [] ≡ x.start ++ entries
    all_is =
        append_assoc (x.start ++ opened ∷ []) tables (configured ∷ []) ∙ append_assoc x.start (opened ∷ []) (tables ++ configured ∷ [])

    fed_entries : AreFed x.source_tells left x.given.config.categories x.start (x.start ++ entries) x.given.sources feeds rests
    fed_entries =
        subst (λ (list : List Entry). AreFed x.source_tells left x.given.config.categories x.start list x.given.sources feeds rests) all_is (fed_on x.source_tells left x.given.config.categories x.start ((x.start ++ opened ∷ []) ++ tables) (((x.start ++ opened ∷ []) ++ tables) ++ configured ∷ []) x.given.sources feeds rests (nothing_behind ((x.start ++ opened ∷ []) ++ tables) (configured ∷ []) (configured_nothing x.given.documents opens.configures.schedule moment)) fed_tables)

    sessions_are : restored.sessions ≡ sessions x.start
    sessions_are = ap (λ (r : Restored). r.sessions) (same tells)

    -- the moment before the session
    moment_was : restored.moment ≡ moment_of x.start
    moment_was = ap (λ (r : Restored). r.moment) (same tells)

    module _ (legal : Legal x.start) where
      filled : IsStateOf restored (opened ∷ tables) opens.filled
      filled =
          subst (λ (at : ℕ). IsStateOf restored (opened ∷ round_entries at opens.tables.turns) opens.filled) (ap (λ (c : Counts). c.moment) opens.begins.counts) (opens.tables.brings.stands restored (opened ∷ []) opens.begins.stands)

      configures : configuring.Configures x.given (x.start ++ (opened ∷ tables)) moment configured
      configures =
          record { schedule = opens.configures.schedule; is = opens.configures.of_list restored (opened ∷ tables) filled x.start legal (sym (same tells)); are = refl }

      steps : GivesSteps x.source_tells x.given (x.start ++ opened ∷ []) (filter (λ (source : Source). is_tables source.kind) x.given.sources) tables
      steps =
          tables_given x.source_tells left faults x.given x.start (x.start ++ opened ∷ []) restored.moment started feeds between rests opens.tables.turns (moment_was ∙ sym (last_of-append moment_in 0 x.start (opened ∷ []))) fed_opened names_distinct opens.tables.whole opens.tables.each

      by_list : (reading : ℕ) → moment ≡ max reading restored.moment → session.Opens x.source_tells x.given x.start reading entries
      by_list reading at = record {
        tables = tables;
        configured = configured;
        takes = subst (λ (count : ℕ). GivesSteps x.source_tells x.given (x.start ++ Opened (count + 1) 2 ∷ []) (filter (λ (source : Source). is_tables source.kind) x.given.sources) tables) sessions_are steps;
        configures = subst (λ (m : ℕ). configuring.Configures x.given (x.start ++ (Opened (sessions x.start + 1) 2 ∷ tables)) m configured) (at ∙ ap (max reading) moment_was) (subst (λ (count : ℕ). configuring.Configures x.given (x.start ++ (Opened (count + 1) 2 ∷ tables)) moment configured) sessions_are configures);
        are = ap (λ (count : ℕ). Opened (count + 1) 2 ∷ tables ++ configured ∷ []) sessions_are;
      }

  silent : All NoBatch entries
  silent =
      All-cons NoBatch opened (tables ++ configured ∷ []) refl (All-append NoBatch tables (configured ∷ []) (round_batchless restored.moment opens.tables.turns) (All-cons NoBatch configured [] refl (All-nil NoBatch)))

  stands : (x.keeper_tells → kept ≡ x.start) → Standing left x entries kept feeds rests moment state
  stands kept_is = record {
    base = restored;
    same = λ tells. sym (same tells);
    stands = opens.opened.stands;
    sealed = [];
    parts = sym opens.opened.tail;
    list = λ tells. kept_is tells ∙ sym (append-nil x.start);
    configured = λ before. last_of-append configured_in before (opened ∷ tables) (configured ∷ []);
    schedule = λ before. last_of-append schedule_in before (opened ∷ tables) (configured ∷ []) ∙ sym opens.configures.brings.schedule;
    fed = fed_entries;
  }

  moment_is : moment_of (x.start ++ entries) ≡ moment
  moment_is =
      last_of-append moment_in 0 x.start entries ∙ last_of-append moment_in (moment_of x.start) (opened ∷ tables) (configured ∷ [])

  at_reading : (reading : ℕ) → moment ≡ max reading restored.moment → moment ≡ max reading (moment_of (x.start ++ entries))
  at_reading reading at = latest ∙ ap (max reading) (sym moment_is)
    where
      latest : moment ≡ max reading moment
      latest = omega (arith, at)

  ready : AreGoing state.counts.taken feeds → IsReady feeds moment state
  ready going = record {
    before = (let now = ap (λ (c : Counts). c.moment) opens.configures.brings.counts in omega (arith, now));
    answered = none_due_yet state opens.opened.unticked;
    settled = none_owed_yet state opens.opened.unticked;
    going = going;
    tellable = subst AreTellable (sym opens.opened.tail) opens.opened.tellable;
  }

  -- it is configured once
  once : configurations entries ≡ 1
  once =
      let parts : configurations entries ≡ configurations tables + 1 = configurations-append (opened ∷ tables) (configured ∷ []) in
      let none = round_none restored.moment opens.tables.turns in
      omega (arith, parts, none)

  opens_session : {C : Type 0} (reads : C → ℕ → C → Type 0) (clock now : C) → IsRead reads clock now restored.moment moment → (x.keeper_tells → kept ≡ x.start) → OpensSession left x reads clock now kept feeds rests moment state
  opens_session reads clock now read kept_is = record {
    reading = read.reading;
    read = read.reads_it;
    number = restored.sessions + 1;
    rest = tables ++ configured ∷ [];
    opens = λ tells legal. by_list tells legal read.reading read.is;
    at = at_reading read.reading read.is;
    standing = stands kept_is;
    tail = opens.opened.tail;
    silent = silent;
    once = once;
    tables = tables;
    configured = configured;
    rest_is = refl;
    none = round_none restored.moment opens.tables.turns;
    configures = refl;
    ready = ready;
  }

-- a session over what it was given: this configuration, on this host, of these sources, with steps of so many records
pub opened_session : {S C : Type 0} (left : S → List ℕ) (faults : S → ℕ) (reads : C → ℕ → C → Type 0) (x : Fixed) (setup : Setup) (config : Config) (documents : List (List ℕ)) (restored : Restored) (clock now : C) (kept : List Entry) (feeds : List Feeding) (objects rests : List S) (moment : ℕ) (state : Kept) → x.given.config ≡ config → x.given.documents ≡ documents → x.given.host ≡ setup.host → x.given.records ≡ setup.records → x.given.sources ≡ sources_of left setup.sources objects → (x.keeper_tells → restored ≡ summary x.start) → (x.keeper_tells → kept ≡ x.start)
    → IsDistinct bytes_eq (source_names setup.sources) → IsOpen x.source_tells left faults reads setup config documents restored clock now objects rests moment feeds state → OpensSession left x reads clock now kept feeds rests moment state
unfolding opens_session
opened_session {S} {C} left faults reads x setup config documents restored clock now kept feeds objects rests moment state config_is documents_are host_is records_are sources_are same kept_is distinct is =
    opens_session left faults x setup restored kept is.started feeds objects is.between rests moment state same distinct sources_are starts opens reads clock now is.read kept_is
  where
    starts : IsStarted x.source_tells left faults restored.taken x.given.config.categories setup.sources is.started objects is.between
    starts =
        subst (λ (config : Config). IsStarted x.source_tells left faults restored.taken config.categories setup.sources is.started objects is.between) (sym config_is) is.starts

    opens : Opens x.source_tells left faults x.given.records restored x.given.config x.given.documents x.given.host moment is.started feeds is.between rests state
    opens =
        subst (λ (most : ℕ). Opens x.source_tells left faults most restored x.given.config x.given.documents x.given.host moment is.started feeds is.between rests state) (sym records_are) (subst (λ (host : Host). Opens x.source_tells left faults setup.records restored x.given.config x.given.documents host moment is.started feeds is.between rests state) (sym host_is)
        (subst (λ (documents : List (List ℕ)). Opens x.source_tells left faults setup.records restored x.given.config documents setup.host moment is.started feeds is.between rests state) (sym documents_are) (subst (λ (config : Config). Opens x.source_tells left faults setup.records restored config documents setup.host moment is.started feeds is.between rests state) (sym config_is) is.opens)))
