-- The turns of the loop over ticks.
use Rattle.std.proofs.Common.{◌≡◌, ℕ, suc, ◌+◌, Bool, Option, None, List, [], ◌∷◌, ◌++◌, length, refl, sym, ap, ◌∙◌, subst, arith, append_assoc, length-append, inl, inr, map}
use Rattle.std.specs.Prelude.{◌⊎◌, true, bytes_eq, option_map, take}
use Rattle.std.specs.List.{cons_option}
use Rattle.std.proofs.Math.Numerals.{suc-eq-add-one}
use Rattle.std.proofs.lemmas.List.{append-nil}
use Rattle.osq_config.specs.declared.config.Config.{Config}
use Rattle.config_files.specs.Configurations.{IsConfigOf}
use Rattle.source_feeds.specs.Feeding.{Feeding}
use Rattle.pack_rules.specs.declared.schedule.Form.TheVariants as form
use Rattle.entry_model.specs.declared.entry.Entry.{Entry}
use Rattle.entry_model.specs.declared.entry.Entry.TheVariants.{Acked, Opened, Ticked}
use Rattle.entry_model.specs.declared.restored.Taken.{Taken}
use Rattle.entry_model.specs.Legal.{Legal}
use Rattle.entry_model.specs.Views.{is_evented_table}
use Rattle.session_model.specs.Configuring.{found_behind}
use Rattle.entry_model.specs.declared.restored.Restored.{Restored}
use Rattle.entry_model.specs.Fits.{IsDistinct}
use Rattle.entry_model.specs.Summary.{summary}
use Rattle.session_state.specs.Kept.{Counts, IsState, Kept}
use Rattle.session_state.specs.Ticks.{first_due, owed_at}
use Rattle.daemon_rounds.specs.Configuring.{found_now}
use Rattle.daemon_rounds.specs.Keeping.{GoesOn}
use Rattle.daemon_rounds.specs.Moments.{IsRead}
use Rattle.daemon_rounds.specs.Opening.{IsFoundBy, opening_entries}
use Rattle.daemon_rounds.specs.Rounding.{AreGoing}
use Rattle.daemon_rounds.specs.Session.{IsOpen}
use Rattle.daemon_rounds.specs.Starting.{source_names}
use Rattle.daemon_rounds.specs.Telling.{AreLinesOf}
use Rattle.daemon_rounds.specs.Ticking.{asks_again, configured_last}
use Rattle.daemon_rounds.specs.declared.setup.Setup.{Setup}
use Rattle.daemon_rounds.proofs.Laters.{AreLater, later_then, round_later, start_later}
use Rattle.daemon_rounds.proofs.Opened.{opened_goes_on}
use Rattle.daemon_rounds.specs.declared.turning.Which.TheVariants as which
use Rattle.forward_rounds.specs.Forwarding.{View}
use Rattle.forward_rounds.proofs.Marking.{acks_tell_none}
use Rattle.replay_rounds.specs.Fixed.{Fixed, Linked, fixed_with}
use Rattle.session_model.specs.Working.{acks_of}
use Rattle.replay_rounds.specs.Linking.{ForwardsBy, IsAcked, readings_of}
use Rattle.replay_rounds.specs.Noting.{ArePlacesBut, Place, configurations, places_of}
use Rattle.replay_rounds.specs.OneTick.{HasOneTick, IsOneTick}
use Rattle.replay_rounds.specs.Running.{IsKept, IsWritten, ReadsAll, run_by}
use Rattle.replay_rounds.specs.Refusals.{numbers_of}
use Rattle.replay_rounds.specs.Sources.{AreFed}
use Rattle.replay_rounds.specs.Standing.{IsReady, Standing}
use Rattle.replay_rounds.specs.Stopping.{AreNumbersOf, AreSealed, HasNumbers}
use Rattle.replay_rounds.specs.Ticked.{IsPartlyTold, IsSealedTick, IsTick, IsWholeTick, TakesTick, TickDone}
use Rattle.replay_rounds.specs.declared.refused.Numbers.{Numbers}
use Rattle.replay_rounds.proofs.Counted.{configurations-append, count_of, not_at_once}
use Rattle.replay_rounds.proofs.Endings.{fed_by_all}
use Rattle.replay_rounds.proofs.Linked.{heard_none}
use Rattle.replay_rounds.proofs.Full.{HaveSteps, steps_begun, steps_more}
use Rattle.replay_rounds.proofs.OpenedSession.{OpensSession, opened_session}
use Rattle.replay_rounds.proofs.Places.{again_places, found_ticked, places-append, places_acked, places_none, places_now, places_sealed, places_unsealed, tick_place, tick_places, tick_counted}
use Rattle.replay_rounds.proofs.Ran.{HasRest, HeardIn, IsAdded, IsRunning, IsToldAll, acked_standing, acks_silent, added_on, all_is_kept, all_kept, all_written, first_added, first_ran, from_opened, grows, heard_kept, next_one, no_tick, none_kept, none_written, numbers_are, partly_written, ran_on, read_all, reads_more, sealed_standing, still_added, still_kept, tail_own, taken_stays, told_on, values}
use Rattle.replay_rounds.proofs.Sessions.{at_beat}
use Rattle.replay_rounds.proofs.Tellings.{form_behind, told_more}
use Rattle.replay_rounds.proofs.Ticked.{takes_tick}
use Rattle.session_model.specs.Orders.{Order}
use Rattle.replay_rounds.proofs.Rounds.{gives}

-- the counts of the sources' faults never fell in a tick
pub tick_later : {S : Type 0} (order : Order) (tells : Type 0) (left : S → List ℕ) (faults : S → ℕ) (setup : Setup) (config : Config) (documents : List (List ℕ)) (configured_at moment : ℕ) (feeds nexts : List Feeding) (objects rests : List S) (old settled : Kept) → TickDone order tells left faults setup config documents configured_at moment feeds nexts objects rests old settled → AreLater faults objects rests
tick_later order tells left faults setup config documents configured_at moment feeds nexts objects rests old settled done =
    let round = gives order tells left faults setup.records feeds nexts objects rests done.fills.configured done.filled done.fills.rounds in
    round_later tells left faults which.Every setup.records feeds nexts objects rests round.turns round.whole round.each

module _ {S C : Type 0} (order : Order) (keeper_tells sink_tells tells : Type 0) (left : S → List ℕ) (faults : S → ℕ) (setup : Setup) (config : Config) (documents : List (List ℕ)) (sources : List S) (start : List Entry) (before : List ℕ) (link : Linked) (reads : C → ℕ → C → Type 0) (clock : C) where
  abbrev x : Fixed
  x = fixed_with order keeper_tells sink_tells tells left setup config documents sources start before link

  -- Behind so many ticks: all that they gained is kept and told, and the next one may begin.
  pub record IsLooping (now : C) (rounds : ℕ) (kept : List Entry) (written : List ℕ) (feeds : List Feeding) (objects : List S) (last : ℕ) (s : Kept) : Type 0 where
    pub running : IsRunning left x reads clock now kept written feeds objects last s
    pub count : length running.added.beats + 1 ≡ rounds
    pub later : AreLater faults sources objects
    pub have : keeper_tells → HaveSteps tells left setup.records rounds start x.given.sources feeds objects

  takes : (added kept : List Entry) (feeds nexts : List Feeding) (objects rests : List S) (configured_at last moment : ℕ) (old settled : Kept) → Standing left x added kept feeds objects configured_at old → AreGoing old.counts.taken feeds → TickDone order tells left faults setup config documents configured_at moment feeds nexts objects rests old settled → last ≡ configured_last (asks_again config configured_at moment) configured_at moment → TakesTick left x added kept nexts rests last moment old settled
  takes added kept feeds nexts objects rests configured_at last moment old settled standing going done last_is =
      takes_tick left faults x setup config documents added kept feeds nexts objects rests configured_at last moment old settled refl refl refl refl standing going.distinct done last_is

  -- each source that isn't at its end gave one more full step in a tick
  pub more_steps : (steps : ℕ) (added kept : List Entry) (feeds nexts : List Feeding) (objects rests : List S) (configured_at moment : ℕ) (old settled : Kept) → Standing left x added kept feeds objects configured_at old → TickDone order tells left faults setup config documents configured_at moment feeds nexts objects rests old settled → keeper_tells → HaveSteps tells left setup.records steps start x.given.sources feeds objects → HaveSteps tells left setup.records (suc steps) start x.given.sources nexts rests
  more_steps steps added kept feeds nexts objects rests configured_at moment old settled standing done told have =
      let round = gives order tells left faults setup.records feeds nexts objects rests done.fills.configured done.filled done.fills.rounds in
      steps_more tells left faults config.categories setup.records steps start (start ++ added) x.given.sources feeds nexts objects rests round.turns round.whole round.each (standing.fed told) have

  -- when a session was configured last, behind a tick
  abbrev last_in : ℕ → ℕ → ℕ
  last_in configured_at moment = configured_last (asks_again config configured_at moment) configured_at moment

  -- the first tick
  module _ (now : C) (kept next : List Entry) (written : List ℕ) (feeds nexts : List Feeding) (objects rests : List S) (opened_at : ℕ) (old : Kept) (notes : List ℕ) (configuration : IsConfigOf documents config notes) (o : OpensSession left x reads clock now kept feeds objects opened_at old) (going : AreGoing old.counts.taken feeds) (kept_is : keeper_tells → kept ≡ start) where
    abbrev opening : List Entry
    opening = Opened o.number 2 ∷ o.rest

    -- the opening has no batch
    first_one : (own : List Entry) → IsOneTick own → HasOneTick (opening ++ own)
    first_one own one = record { opening = opening; tick = own; are = refl; silent = o.silent; one = one }

    pub first_takes : (last : ℕ) (settled : Kept) → TickDone order tells left faults setup config documents opened_at opened_at feeds nexts objects rests old settled → last ≡ last_in opened_at opened_at → TakesTick left x opening kept nexts rests last opened_at old settled
    first_takes last settled done last_is =
        takes opening kept feeds nexts objects rests opened_at last opened_at old settled o.standing going done last_is

    first_adds : (last : ℕ) (settled new : Kept) (t : TakesTick left x opening kept nexts rests last opened_at old settled) → new ≡ record settled { tail = [] } → (keeper_tells → next ≡ kept ++ settled.tail) → IsAdded left x reads clock now next nexts rests last new
    first_adds last settled new t taken grown =
        first_added left x reads clock now kept next nexts rests last opened_at old settled new opening t taken grown o.reading notes o.read configuration o.opens (λ tells legal. o.at)

    own_tail : (last : ℕ) (settled : Kept) (t : TakesTick left x opening kept nexts rests last opened_at old settled) → settled.tail ≡ opening ++ t.own
    own_tail last settled t = t.tail ∙ ap (λ (es : List Entry). es ++ t.own) o.tail

    pub first_told : (last : ℕ) (settled : Kept) (t : TakesTick left x opening kept nexts rests last opened_at old settled) (lines : List ℕ) → AreLinesOf setup.host.identifier old.schedule.form settled.tail lines → AreLinesOf setup.host.identifier form.Event (opening ++ t.own) lines
    first_told last settled t lines told =
        from_opened setup.host.identifier old.schedule.form o.number opening t.own o.rest lines refl (subst (λ (es : List Entry). AreLinesOf setup.host.identifier old.schedule.form es lines) (own_tail last settled t) told)

    unfoldable pub looped_first : (last : ℕ) (new : Kept) → IsTick order keeper_tells sink_tells tells left faults setup config documents opened_at last opened_at kept next before written feeds nexts objects rests old new → AreLater faults sources objects → IsLooping now 1 next written nexts rests last new
    unfolding first_ran first_added
    looped_first last new tick later =
        let t = first_takes last tick.settled tick.done tick.last_is in
        record {
          running = first_ran left x reads clock now kept next nexts rests last opened_at old tick.settled new opening t tick.taken tick.kept o.reading notes o.read configuration o.opens (λ tells legal. o.at) written (λ tells. let (lines, told, is) = tick.told tells in (lines, first_told last tick.settled t lines told, is));
          count = refl;
          later = later_then faults sources objects rests later (tick_later order tells left faults setup config documents opened_at opened_at feeds nexts objects rests old tick.settled tick.done);
          have = λ told. more_steps 0 opening kept feeds nexts objects rests opened_at opened_at old tick.settled o.standing tick.done told (steps_begun tells left config.categories setup.records start (start ++ opening) x.given.sources feeds objects (o.standing.fed told));
        }

    -- it hasn't forwarded yet
    pub linked_first : (last : ℕ) (new : Kept) (tick : IsTick order keeper_tells sink_tells tells left faults setup config documents opened_at last opened_at kept next before written feeds nexts objects rests old new) (later : AreLater faults sources objects) → (looped_first last new tick later).running.added.linked ≡ link.before
    unfolding looped_first first_ran first_added
    linked_first last new tick later = refl

    -- the session is configured once, when it opens
    none_first : (settled : Kept) → TickDone order tells left faults setup config documents opened_at opened_at feeds nexts objects rests old settled → configurations settled.tail ≡ 1
    none_first settled done =
        let all = tick_counted order tells left faults setup config documents opened_at opened_at feeds nexts objects rests old settled done in
        let none : count_of (asks_again config opened_at opened_at) ≡ 0 = ap count_of (not_at_once config opened_at) in
        let once : configurations old.tail ≡ 1 = ap (λ (es : List Entry). configurations es) o.tail ∙ o.once in
        omega (arith, all, none, once)

    -- where that is
    abbrev pub place : Place
    place = record { list = start ++ (Opened o.number 2 ∷ o.tables); moment = opened_at }

    opening_places : places_of start opening ≡ place ∷ []
    opening_places =
        ap (λ (rest : List Entry). places_of start (Opened o.number 2 ∷ rest)) o.rest_is ∙ places-append start (Opened o.number 2 ∷ o.tables) (o.configured ∷ [])
        ∙ ap (λ (places : List Place). places ++ places_of (start ++ (Opened o.number 2 ∷ o.tables)) (o.configured ∷ [])) (places_none start (Opened o.number 2 ∷ o.tables) o.none)
        ∙ ap (λ (at : Option ℕ). cons_option (option_map (λ (moment : ℕ). record { list = start ++ (Opened o.number 2 ∷ o.tables); moment = moment }) at) []) o.configures

    -- what its notes say is found, discovery finds there
    pub found_first : (restored : Restored) (found : List Bool) → (keeper_tells → restored ≡ summary start) → IsFoundBy restored config opened_at old found → keeper_tells → Legal start → found ≡ found_behind x.given place.list place.moment
    found_first restored found same by told legal =
        by.of_list start (Opened o.number 2 ∷ o.tables) o.configured legal (sym (same told)) (o.tail ∙ ap (λ (rest : List Entry). Opened o.number 2 ∷ rest) o.rest_is)

    -- and nowhere else in the first tick
    first_places : (own : List Entry) (settled : Kept) → settled.tail ≡ opening ++ own → TickDone order tells left faults setup config documents opened_at opened_at feeds nexts objects rests old settled → places_of start (opening ++ own) ≡ place ∷ []
    first_places own settled tail done =
        let all = none_first settled done in
        let parts : configurations settled.tail ≡ configurations opening + configurations own = ap (λ (es : List Entry). configurations es) tail ∙ configurations-append opening own in
        let once = o.once in
        places-append start opening own ∙ ap (λ (places : List Place). places_of start opening ++ places) (places_none (start ++ opening) own (omega (arith, all, parts, once))) ∙ append-nil (places_of start opening) ∙ opening_places

    pub counted_first : (last : ℕ) (new : Kept) (tick : IsTick order keeper_tells sink_tells tells left faults setup config documents opened_at last opened_at kept next before written feeds nexts objects rests old new) (later : AreLater faults sources objects) → places_of start (looped_first last new tick later).running.added.entries ≡ place ∷ []
    unfolding looped_first first_ran first_added
    counted_first last new tick later =
        let t = first_takes last tick.settled tick.done tick.last_is in
        first_places t.own tick.settled (own_tail last tick.settled t) tick.done

    -- where the tick isn't done
    pub counted_in_first : IsWholeTick order tells left faults setup config documents opened_at opened_at kept next feeds nexts objects rests old → keeper_tells → ArePlacesBut start next (place ∷ [])
    counted_in_first (inl same) told = ([], opening, same ∙ kept_is told ∙ sym (append-nil start), (let once = o.once in omega (arith, once)), sym opening_places)
    counted_in_first (inr (settled, done, grown)) told =
        let t = first_takes (last_in opened_at opened_at) settled done refl in
        let tail = own_tail (last_in opened_at opened_at) settled t in
        (opening ++ t.own, [], grown ∙ ap (λ (list : List Entry). list ++ settled.tail) (kept_is told) ∙ ap (λ (es : List Entry). start ++ es) tail, omega arith, sym (ap (places_of start) (append-nil (opening ++ t.own)) ∙ first_places t.own settled tail done))

    -- what is kept where it isn't done
    pub kept_first : IsWholeTick order tells left faults setup config documents opened_at opened_at kept next feeds nexts objects rests old → keeper_tells → IsKept (run_by x reads clock now) next
    kept_first (inl same) told =
        none_kept x (λ readings. ReadsAll reads clock readings now) (o.reading ∷ []) next (now, o.read, refl) (omega arith) (λ tells. same ∙ kept_is tells)
    kept_first (inr (settled, done, grown)) told =
        all_is_kept left x reads clock now next nexts rests (last_in opened_at opened_at) (record settled { tail = [] }) (first_adds (last_in opened_at opened_at) settled (record settled { tail = [] }) (first_takes (last_in opened_at opened_at) settled done refl) refl (λ tells. grown))

    pub partly_first : IsPartlyTold order keeper_tells tells left faults setup config documents opened_at opened_at kept next before written feeds nexts objects rests old → IsWritten x next written
    partly_first p =
        let t = first_takes (last_in opened_at opened_at) p.settled p.done refl in
        partly_written x next [] (opening ++ t.own) written [] p.lines p.count (first_one t.own t.one) (λ tells. p.kept tells ∙ ap (λ (list : List Entry). list ++ p.settled.tail) (kept_is tells) ∙ ap (λ (es : List Entry). start ++ es) (own_tail (last_in opened_at opened_at) p.settled t)) refl (first_told (last_in opened_at opened_at) p.settled t p.lines p.told) (p.written ∙ ap (λ (text : List ℕ). text ++ take p.count p.lines) (sym (append-nil before)))

    -- where its lines could not be written, the state has the numbers of the list behind it
    pub numbers_first : (new : Kept) → IsSealedTick order keeper_tells tells left faults setup config documents opened_at opened_at kept next feeds nexts objects rests old new → AreNumbersOf x next (numbers_of new)
    numbers_first new tick =
        let last = last_in opened_at opened_at in
        let r = first_adds last tick.settled new (first_takes last tick.settled tick.done refl) tick.taken tick.kept in
        numbers_are left x r.entries next nexts rests last new r.standing r.empty

    more_first : IsWholeTick order tells left faults setup config documents opened_at opened_at kept next feeds nexts objects rests old → keeper_tells → (more : List Entry) × (next ≡ start ++ more)
    more_first (inl same) told = ([], same ∙ kept_is told ∙ sym (append-nil start))
    more_first (inr (settled, done, grown)) told = (settled.tail, grown ∙ ap (λ (list : List Entry). list ++ settled.tail) (kept_is told))

    -- where its seal fails, these numbers are those of the list before
    pub sealed_first : (numbers : Numbers) → AreNumbersOf x start numbers → (keeper_tells → IsWholeTick order tells left faults setup config documents opened_at opened_at kept next feeds nexts objects rests old) → AreSealed (run_by x reads clock now) next numbers
    sealed_first numbers are whole = record {
      beats = [];
      more = o.reading ∷ [];
      read = (now, o.read, refl);
      failed = inl (o.reading, refl);
      sealed = start;
      entries = [];
      grows = record { grown = λ told. sym (append-nil start); adds = λ told legal. refl; heard = λ told legal. heard_none x };
      kept_is = λ told. more_first (whole told) told;
      are = are;
    }

    -- what is kept where nothing of it was written
    pub rest_first : IsWholeTick order tells left faults setup config documents opened_at opened_at kept next feeds nexts objects rests old → keeper_tells → HasRest x next []
    rest_first (inl same) told = ([], no_tick, same ∙ kept_is told ∙ sym (append-nil start))
    rest_first (inr (settled, done, grown)) told =
        let t = first_takes (last_in opened_at opened_at) settled done refl in
        (opening ++ t.own, first_one t.own t.one, grown ∙ ap (λ (list : List Entry). list ++ settled.tail) (kept_is told) ∙ ap (λ (es : List Entry). start ++ es) (own_tail (last_in opened_at opened_at) settled t))

    pub unwritten_first : (keeper_tells → IsWholeTick order tells left faults setup config documents opened_at opened_at kept next feeds nexts objects rests old) → (written : List ℕ) → written ≡ before → IsWritten x next written
    unwritten_first whole written same = none_written x next written (λ tells. rest_first (whole tells) tells) same

  -- what was written behind the last tick
  pub still_written : (now : C) (rounds : ℕ) (kept : List Entry) (written : List ℕ) (feeds : List Feeding) (objects : List S) (last : ℕ) (s : Kept) → IsLooping now rounds kept written feeds objects last s → sink_tells → IsWritten x kept written
  still_written now rounds kept written feeds objects last s l told =
      all_written x kept l.running.added.entries written (λ tells. ([], no_tick, all_kept left x l.running.added.entries kept feeds objects last s l.running.added.standing l.running.added.empty tells ∙ ap (λ (es : List Entry). start ++ es) (sym (append-nil l.running.added.entries)))) (l.running.told told)

  -- where the session was configured
  pub counted_now : (now : C) (rounds : ℕ) (kept : List Entry) (written : List ℕ) (feeds : List Feeding) (objects : List S) (last : ℕ) (s : Kept) (l : IsLooping now rounds kept written feeds objects last s) → keeper_tells → kept ≡ start ++ l.running.added.entries
  counted_now now rounds kept written feeds objects last s l told =
      all_kept left x l.running.added.entries kept feeds objects last s l.running.added.standing l.running.added.empty told

  -- its feeds, told by the bytes that their sources have left
  pub fed_now : (now : C) (rounds : ℕ) (kept : List Entry) (written : List ℕ) (feeds : List Feeding) (objects : List S) (last : ℕ) (s : Kept) (l : IsLooping now rounds kept written feeds objects last s) → keeper_tells
      → AreFed tells (λ (bytes : List ℕ). bytes) config.categories start kept x.given.sources feeds (map left objects)
  fed_now now rounds kept written feeds objects last s l told =
      fed_by_all tells left config.categories start kept x.given.sources feeds objects
      (subst (λ (list : List Entry). AreFed tells left config.categories start list x.given.sources feeds objects) (sym (all_kept left x l.running.added.entries kept feeds objects last s l.running.added.standing l.running.added.empty told)) (l.running.added.standing.fed told))

  -- what is heard behind a list that is the same, of a link that is left so
  pub heard_now : (kept other : List Entry) (marks : List ℕ) (left_so before after : View) → (keeper_tells → other ≡ kept) → left_so ≡ before → HeardIn x kept marks before after → HeardIn x other marks left_so after
  heard_now kept other marks left_so before after same is heard = record {
    found = heard.found;
    quiet = heard.quiet;
    acks_are = λ legal. heard.acks_are (legal.0, subst Legal (same legal.0) legal.1) ∙ ap (λ (list : List Entry). acks_of list heard.found) (sym (same legal.0));
    by = λ legal.
        subst (λ (v : View). ForwardsBy x.link.forwards x.link.tells x.given.host.identifier other heard.found v after) (sym is)
        (subst (λ (list : List Entry). ForwardsBy x.link.forwards x.link.tells x.given.host.identifier list heard.found before after) (sym (same legal.0)) (heard.by (legal.0, subst Legal (same legal.0) legal.1)));
  }

  -- what is heard behind a tick
  module _ (now : C) (rounds : ℕ) (kept : List Entry) (written : List ℕ) (feeds : List Feeding) (objects : List S) (last : ℕ) (s : Kept) (l : IsLooping now rounds kept written feeds objects last s) where
    abbrev ran : IsAdded left x reads clock now kept feeds objects last s
    ran = l.running.added

    pub kept_is_all : keeper_tells → kept ≡ start ++ ran.entries
    kept_is_all = all_kept left x ran.entries kept feeds objects last s ran.standing ran.empty

    -- where the keeper fails before anything more is kept
    pub failed_numbers : link.forwards ≡ true → (list : List Entry) → (keeper_tells → (more : List Entry) × (list ≡ kept ++ more)) → AreSealed (run_by x reads clock now) list (numbers_of s)
    failed_numbers forwards list has = record {
      beats = ran.beats ++ at_beat ran.reading [] ∷ [];
      more = [];
      read = subst (λ (rs : List ℕ). ReadsAll reads clock rs now) (sym (append-nil (readings_of (ran.beats ++ at_beat ran.reading [] ∷ [])))) (read_all left x reads clock now kept feeds objects last s ran);
      failed = inr (forwards, refl);
      sealed = kept;
      entries = ran.entries;
      grows = grows left x reads clock now kept feeds objects last s ran;
      kept_is = has;
      are = numbers_are left x ran.entries kept feeds objects last s ran.standing ran.empty;
    }

    -- where the keeper failed behind the last tick, the list is as it was, or has what is acknowledged
    abbrev pub PartlyOver : List Entry → View → View → Type 0
    PartlyOver list before after = (list ≡ kept) ⊎ ((marks : List ℕ) × HeardIn x kept marks before after × (list ≡ kept ++ map Acked marks))

    acks_behind : (marks : List ℕ) (list : List Entry) → list ≡ kept ++ map Acked marks → keeper_tells → list ≡ start ++ (ran.entries ++ map Acked marks)
    acks_behind marks list grown told =
        grown ∙ ap (λ (front : List Entry). front ++ map Acked marks) (kept_is_all told) ∙ append_assoc start ran.entries (map Acked marks)

    pub more_over : (list : List Entry) (before after : View) → PartlyOver list before after → (more : List Entry) × (list ≡ kept ++ more)
    more_over list before after (inl same) = ([], same ∙ sym (append-nil kept))
    more_over list before after (inr (marks, heard, grown)) = (map Acked marks, grown)

    pub rest_over : (list : List Entry) (before after : View) → PartlyOver list before after → keeper_tells → HasRest x list ran.entries
    rest_over list before after (inl same) told = ([], no_tick, same ∙ kept_is_all told ∙ ap (λ (es : List Entry). start ++ es) (sym (append-nil ran.entries)))
    rest_over list before after (inr (marks, heard, grown)) told =
        (map Acked marks, record { opening = map Acked marks; tick = []; are = sym (append-nil (map Acked marks)); silent = acks_silent marks; one = tt }, acks_behind marks list grown told)

    pub places_over : (list : List Entry) (before after : View) → PartlyOver list before after → keeper_tells → ArePlacesBut start list (places_of start ran.entries)
    places_over list before after (inl same) told = places_now start list ran.entries (same ∙ kept_is_all told)
    places_over list before after (inr (marks, heard, grown)) told =
        subst (ArePlacesBut start list) (places_acked start ran.entries marks) (places_now start list (ran.entries ++ map Acked marks) (acks_behind marks list grown told))

    pub written_over : (list : List Entry) (before after : View) → (keeper_tells → PartlyOver list before after) → sink_tells → IsWritten x list written
    written_over list before after has told = all_written x list ran.entries written (λ tells. rest_over list before after (has tells) tells) (l.running.told told)

    pub kept_over : (list : List Entry) (before after : View) → ran.linked ≡ before → PartlyOver list before after → IsKept (run_by x reads clock now) list
    kept_over list before after is (inl same) = subst (IsKept (run_by x reads clock now)) (sym same) (all_is_kept left x reads clock now kept feeds objects last s ran)
    kept_over list before after is (inr (marks, heard, grown)) =
        heard_kept left x reads clock now kept feeds objects last s ran marks after (heard_now kept kept marks ran.linked before after (λ told. refl) is heard) list (λ told. grown)

    -- behind the last tick, what was heard is acknowledged and sealed
    module _ (marks : List ℕ) (after : View) (heard : HeardIn x kept marks ran.linked after) (next : List Entry) (begun new : Kept) (acked : IsAcked s marks begun) (taken : new ≡ record begun { tail = [] }) (grown : keeper_tells → next ≡ kept ++ map Acked marks) where
      pub over_standing : Standing left x (ran.entries ++ map Acked marks) next feeds objects last new
      over_standing =
          sealed_standing left x (ran.entries ++ map Acked marks) kept next feeds objects last begun new (acked_standing left x ran.entries kept feeds objects last s begun marks ran.standing acked) taken
          (λ tells. grown tells ∙ ap (λ (tail : List Entry). kept ++ tail) (sym (acked.adds.tail ∙ ap (λ (tail : List Entry). tail ++ map Acked marks) ran.empty)))

      pub over_kept : IsKept (run_by x reads clock now) next
      over_kept = heard_kept left x reads clock now kept feeds objects last s ran marks after heard next grown

      pub over_told : sink_tells → IsToldAll x (ran.entries ++ map Acked marks) written
      over_told told =
          let (lines, are, is) = l.running.told told in
          (lines, subst (AreLinesOf x.given.host.identifier form.Event (ran.entries ++ map Acked marks)) (append-nil lines) (told_more x.given.host.identifier form.Event ran.entries (map Acked marks) lines [] are (acks_tell_none x.given.host.identifier (form_behind form.Event ran.entries) marks)), is)

      pub over_empty : new.tail ≡ []
      over_empty = ap (λ (k : Kept). k.tail) taken

      pub over_due : IsReady feeds last s → first_due new ≡ None
      over_due ready = ap first_due taken ∙ acked.due ∙ ready.answered

      pub over_owed : IsReady feeds last s → (table : ℕ) → is_evented_table table ≡ true → owed_at new table ≡ None
      over_owed ready table evented = ap (λ (k : Kept). owed_at k table) taken ∙ acked.owed table evented ∙ ready.settled table evented

      pub over_list : keeper_tells → next ≡ start ++ (ran.entries ++ map Acked marks)
      over_list tells = all_kept left x (ran.entries ++ map Acked marks) next feeds objects last new over_standing over_empty tells

      pub over_written : sink_tells → IsWritten x next written
      over_written told = all_written x next ran.entries written (λ tells. rest_over next ran.linked after (inr (marks, heard, grown tells)) tells) (l.running.told told)

      pub over_numbers : AreNumbersOf x next (numbers_of new)
      over_numbers = numbers_are left x (ran.entries ++ map Acked marks) next feeds objects last new over_standing over_empty

      pub over_fed : keeper_tells → AreFed tells (λ (bytes : List ℕ). bytes) config.categories start next x.given.sources feeds (map left objects)
      over_fed told =
          fed_by_all tells left config.categories start next x.given.sources feeds objects
          (subst (λ (list : List Entry). AreFed tells left config.categories start list x.given.sources feeds objects) (sym (over_list told)) (over_standing.fed told))

      pub over_places : places_of start (ran.entries ++ map Acked marks) ≡ places_of start ran.entries
      over_places = places_acked start ran.entries marks

  -- a further tick
  module _ (between now : C) (rounds : ℕ) (earlier kept next : List Entry) (between_written : List ℕ) (feeds nexts : List Feeding) (objects rests : List S) (configured_at moment : ℕ) (old : Kept) (l : IsLooping between rounds earlier between_written feeds objects configured_at old) (still : keeper_tells → kept ≡ earlier) (going : AreGoing old.counts.taken feeds) (read : IsRead reads between now old.counts.moment moment) (marks : List ℕ) (after : View) (heard : HeardIn x kept marks l.running.added.linked after) where
    abbrev r : IsAdded left x reads clock between kept feeds objects configured_at old
    r = still_added left x reads clock between earlier kept feeds objects configured_at old l.running.added still

    abbrev acks : List Entry
    acks = map Acked marks

    pub begun_standing : (begun : Kept) → IsAcked old marks begun → Standing left x (r.entries ++ map Acked marks) kept feeds objects configured_at begun
    begun_standing begun acked = acked_standing left x r.entries kept feeds objects configured_at old begun marks r.standing acked

    begun_going : (begun : Kept) → IsAcked old marks begun → AreGoing begun.counts.taken feeds
    begun_going begun acked = subst (λ (taken : List Taken). AreGoing taken feeds) (sym (ap (λ (c : Counts). c.taken) acked.adds.counts ∙ taken_stays old.counts marks)) going

    pub next_takes : (begun : Kept) → IsAcked old marks begun → (last : ℕ) (settled : Kept) → TickDone order tells left faults setup config documents configured_at moment feeds nexts objects rests begun settled → last ≡ last_in configured_at moment → TakesTick left x (r.entries ++ map Acked marks) kept nexts rests last moment begun settled
    next_takes begun acked last settled done last_is =
        takes (r.entries ++ map Acked marks) kept feeds nexts objects rests configured_at last moment begun settled (begun_standing begun acked) (begun_going begun acked) done last_is

    abbrev NextTick : List ℕ → ℕ → Kept → Type 0
    NextTick written last new = (begun : Kept) × IsAcked old marks begun × IsTick order keeper_tells sink_tells tells left faults setup config documents configured_at last moment kept next between_written written feeds nexts objects rests begun new

    abbrev WholeNext : Type 0
    WholeNext = (next ≡ kept) ⊎ ((begun : Kept) × IsAcked old marks begun × IsWholeTick order tells left faults setup config documents configured_at moment kept next feeds nexts objects rests begun)

    unfoldable pub looped_on : (written : List ℕ) (last : ℕ) (new : Kept) → NextTick written last new → IsLooping now (rounds + 1) next written nexts rests last new
    unfolding ran_on added_on
    looped_on written last new (begun, acked, tick) =
        let t = next_takes begun acked last tick.settled tick.done tick.last_is in
        record {
          running = ran_on left x reads clock between now kept next feeds nexts objects rests configured_at last moment read.reading old begun tick.settled new r marks after heard acked t tick.taken tick.kept read.reads_it read.is between_written written l.running.told tick.told;
          count = (let size = length-append r.beats (at_beat r.reading heard.found ∷ []) in let count = l.count in omega (arith, size, count));
          later = later_then faults sources objects rests l.later (tick_later order tells left faults setup config documents configured_at moment feeds nexts objects rests begun tick.settled tick.done);
          have = λ told. subst (λ (steps : ℕ). HaveSteps tells left setup.records steps start x.given.sources nexts rests) (suc-eq-add-one rounds) (more_steps rounds (r.entries ++ map Acked marks) kept feeds nexts objects rests configured_at moment begun tick.settled (begun_standing begun acked) tick.done told (l.have told));
        }

    pub linked_on : (written : List ℕ) (last : ℕ) (new : Kept) (tick : NextTick written last new) → (looped_on written last new tick).running.added.linked ≡ after
    unfolding looped_on ran_on added_on
    linked_on written last new (begun, acked, tick) = refl

    pub kept_on : WholeNext → keeper_tells → IsKept (run_by x reads clock now) next
    kept_on (inl same) told = still_kept left x reads clock between kept feeds objects configured_at old r read.reading now next read.reads_it same
    kept_on (inr (begun, acked, inl same)) told =
        still_kept left x reads clock between kept feeds objects configured_at old r read.reading now next read.reads_it same
    kept_on (inr (begun, acked, inr (settled, done, grown))) told =
        let last = last_in configured_at moment in
        all_is_kept left x reads clock now next nexts rests last (record settled { tail = [] }) (added_on left x reads clock between now kept next feeds nexts objects rests configured_at last moment read.reading old begun settled (record settled { tail = [] }) r marks after heard acked (next_takes begun acked last settled done refl) refl (λ tells. grown) read.reads_it read.is)

    list_is : keeper_tells → kept ≡ start ++ r.entries
    list_is = all_kept left x r.entries kept feeds objects configured_at old r.standing r.empty

    abbrev again : Bool
    again = asks_again config configured_at moment

    -- where the tick configures the session, by what it adds
    own_places : (begun settled : Kept) → IsAcked old marks begun → TickDone order tells left faults setup config documents configured_at moment feeds nexts objects rests begun settled → (own : List Entry) → settled.tail ≡ own → places_of (start ++ r.entries) own ≡ again_places again (tick_place ((start ++ r.entries) ++ map Acked marks) moment)
    own_places begun settled acked done own tail =
        ap (places_of (start ++ r.entries)) (sym tail) ∙ tick_places order tells left faults setup config documents configured_at moment feeds nexts objects rests begun settled done (start ++ r.entries) marks (acked.adds.tail ∙ ap (λ (es : List Entry). es ++ map Acked marks) r.empty)

    pub counted_on : (written : List ℕ) (last : ℕ) (new : Kept) (tick : NextTick written last new) → places_of start (looped_on written last new tick).running.added.entries ≡ places_of start r.entries ++ again_places again (tick_place ((start ++ r.entries) ++ map Acked marks) moment)
    unfolding looped_on ran_on added_on
    counted_on written last new (begun, acked, tick) =
        let t = next_takes begun acked last tick.settled tick.done tick.last_is in
        let own = tail_own left x reads clock between now kept next feeds nexts objects rests configured_at last moment read.reading old begun tick.settled new r marks after heard acked t in
        ap (places_of start) (append_assoc r.entries (map Acked marks) t.own) ∙ places-append start r.entries (map Acked marks ++ t.own)
        ∙ ap (λ (places : List Place). places_of start r.entries ++ places) (own_places begun tick.settled acked tick.done (map Acked marks ++ t.own) own)

    -- where the tick isn't done
    pub counted_in : WholeNext → keeper_tells → ArePlacesBut start next (places_of start r.entries ++ again_places again (tick_place ((start ++ r.entries) ++ map Acked marks) moment))
    counted_in (inl same) told = places_unsealed start kept next r.entries marks again moment (list_is told) same
    counted_in (inr (begun, acked, inl same)) told = places_unsealed start kept next r.entries marks again moment (list_is told) same
    counted_in (inr (begun, acked, inr (settled, done, grown))) told =
        places_sealed start kept next r.entries settled.tail (again_places again (tick_place ((start ++ r.entries) ++ map Acked marks) moment)) (list_is told) grown (own_places begun settled acked done settled.tail refl)

    -- what its notes say is found, discovery finds in it
    pub found_on : IsState old → keeper_tells → Legal start → found_now config old moment ≡ found_behind x.given (((start ++ r.entries) ++ map Acked marks) ++ Ticked moment ∷ []) moment
    found_on is told legal = found_ticked x.given (start ++ r.entries) old marks moment is (values left x r.entries kept feeds objects configured_at old r.standing told legal)

    -- the list where a tick isn't done begins with what was told
    pub more_kept : WholeNext → keeper_tells → HasRest x next r.entries
    more_kept (inl same) told =
        ([], no_tick, same ∙ list_is told ∙ ap (λ (es : List Entry). start ++ es) (sym (append-nil r.entries)))
    more_kept (inr (begun, acked, inl same)) told =
        ([], no_tick, same ∙ list_is told ∙ ap (λ (es : List Entry). start ++ es) (sym (append-nil r.entries)))
    more_kept (inr (begun, acked, inr (settled, done, grown))) told =
        let last = last_in configured_at moment in
        let t = next_takes begun acked last settled done refl in
        let own = tail_own left x reads clock between now kept next feeds nexts objects rests configured_at last moment read.reading old begun settled settled r marks after heard acked t in
        (map Acked marks ++ t.own, next_one left x reads clock between now kept next feeds nexts objects rests configured_at last moment read.reading old begun settled settled r marks after heard acked t, grown ∙ ap (λ (list : List Entry). list ++ settled.tail) (list_is told) ∙ append_assoc start r.entries settled.tail ∙ ap (λ (es : List Entry). start ++ (r.entries ++ es)) own)

    pub written_on : (keeper_tells → WholeNext) → sink_tells → IsWritten x next between_written
    written_on whole told = all_written x next r.entries between_written (λ tells. more_kept (whole tells) tells) (l.running.told told)

    pub partly_on : (written : List ℕ) → (begun : Kept) × IsAcked old marks begun × IsPartlyTold order keeper_tells tells left faults setup config documents configured_at moment kept next between_written written feeds nexts objects rests begun → sink_tells → IsWritten x next written
    partly_on written (begun, acked, p) told =
        let last = last_in configured_at moment in
        let t = next_takes begun acked last p.settled p.done refl in
        let (lines, was, front, all) = told_on left x reads clock between now kept next feeds nexts objects rests configured_at last moment read.reading old begun p.settled p.settled r marks after heard acked t between_written p.lines (l.running.told told) p.told in
        partly_written x next r.entries (map Acked marks ++ t.own) written lines p.lines p.count (next_one left x reads clock between now kept next feeds nexts objects rests configured_at last moment read.reading old begun p.settled p.settled r marks after heard acked t) (λ tells. p.kept tells ∙ ap (λ (list : List Entry). list ++ p.settled.tail) (list_is tells) ∙ append_assoc start r.entries p.settled.tail ∙ ap (λ (es : List Entry). start ++ (r.entries ++ es)) (tail_own left x reads clock between now kept next feeds nexts objects rests configured_at last moment read.reading old begun p.settled p.settled r marks after heard acked t)) front all (p.written ∙ ap (λ (text : List ℕ). text ++ take p.count p.lines) was)

    -- where its lines could not be written, the state has the numbers of the list behind it
    pub numbers_on : (new : Kept) → (begun : Kept) × IsAcked old marks begun × IsSealedTick order keeper_tells tells left faults setup config documents configured_at moment kept next feeds nexts objects rests begun new → AreNumbersOf x next (numbers_of new)
    numbers_on new (begun, acked, tick) =
        let last = last_in configured_at moment in
        let a = added_on left x reads clock between now kept next feeds nexts objects rests configured_at last moment read.reading old begun tick.settled new r marks after heard acked (next_takes begun acked last tick.settled tick.done refl) tick.taken tick.kept read.reads_it read.is in
        numbers_are left x a.entries next nexts rests last new a.standing a.empty

    -- the numbers before it
    pub numbers_before : AreNumbersOf x kept (numbers_of old)
    numbers_before = numbers_are left x r.entries kept feeds objects configured_at old r.standing r.empty

    pub numbers_same : (keeper_tells → next ≡ kept) → AreNumbersOf x next (numbers_of old)
    numbers_same same = λ told legal. subst (λ (list : List Entry). HasNumbers list (numbers_of old)) (sym (same told)) (numbers_before told legal)

    more_on : WholeNext → (more : List Entry) × (next ≡ kept ++ more)
    more_on (inl same) = ([], same ∙ sym (append-nil kept))
    more_on (inr (begun, acked, inl same)) = ([], same ∙ sym (append-nil kept))
    more_on (inr (begun, acked, inr (settled, done, grown))) = (settled.tail, grown)

    pub sealed_on : (keeper_tells → WholeNext) → AreSealed (run_by x reads clock now) next (numbers_of old)
    sealed_on whole = record {
      beats = r.beats ++ at_beat r.reading [] ∷ [];
      more = read.reading ∷ [];
      read = reads_more reads clock between now (readings_of (r.beats ++ at_beat r.reading [] ∷ [])) read.reading (read_all left x reads clock between kept feeds objects configured_at old r) read.reads_it;
      failed = inl (read.reading, refl);
      sealed = kept;
      entries = r.entries;
      grows = grows left x reads clock between kept feeds objects configured_at old r;
      kept_is = λ told. more_on (whole told);
      are = numbers_before;
    }

-- what an opening gives: it opens by the list, and the counts of the sources' faults never fell in it
pub opens_here : {S C : Type 0} (order : Order) (keeper_tells sink_tells tells : Type 0) (left : S → List ℕ) (faults : S → ℕ) (setup : Setup) (config : Config) (documents : List (List ℕ)) (sources : List S) (start : List Entry) (before : List ℕ) (link : Linked) (reads : C → ℕ → C → Type 0) (clock now : C) (restored : Restored) (kept : List Entry) (items feeds : List Feeding) (rests : List S) (moment : ℕ) (state : Kept)
    → (keeper_tells → restored ≡ summary start) → (keeper_tells → kept ≡ start) → IsDistinct bytes_eq (source_names setup.sources) → IsOpen tells left faults reads setup config documents restored clock now sources rests moment items state → feeds ≡ items
    → OpensSession left (fixed_with order keeper_tells sink_tells tells left setup config documents sources start before link) reads clock now kept feeds rests moment state × AreLater faults sources rests
opens_here order keeper_tells sink_tells tells left faults setup config documents sources start before link reads clock now restored kept items feeds rests moment state same kept_is distinct is slice = (
  subst (λ (fs : List Feeding). OpensSession left (fixed_with order keeper_tells sink_tells tells left setup config documents sources start before link) reads clock now kept fs rests moment state) (sym slice)
      (opened_session left faults reads (fixed_with order keeper_tells sink_tells tells left setup config documents sources start before link) setup config documents restored clock now kept items sources rests moment state refl refl refl refl refl same kept_is distinct is),
  later_then faults sources is.between rests (start_later tells left faults is.starts.opened is.started sources is.between is.starts.starts)
      (round_later tells left faults which.Tables setup.records is.started items is.between rests is.opens.tables.turns is.opens.tables.whole is.opens.tables.each),
)

-- the state goes on from the keeper's list
pub goes_on_here : {S C : Type 0} (keeper_tells tells : Type 0) (left : S → List ℕ) (faults : S → ℕ) (setup : Setup) (config : Config) (documents : List (List ℕ)) (sources : List S) (start kept : List Entry) (reads : C → ℕ → C → Type 0) (clock now : C) (restored : Restored) (items : List Feeding) (rests : List S) (moment : ℕ) (state : Kept)
    → (keeper_tells → restored ≡ summary start) → (keeper_tells → kept ≡ start) → IsOpen tells left faults reads setup config documents restored clock now sources rests moment items state → GoesOn keeper_tells kept state
goes_on_here keeper_tells tells left faults setup config documents sources start kept reads clock now restored items rests moment state same kept_is is =
    opened_goes_on keeper_tells kept restored (opening_entries restored is.opens.tables.turns documents is.opens.configures.schedule moment) state is.opens.opened (λ told. same told ∙ ap summary (sym (kept_is told)))
