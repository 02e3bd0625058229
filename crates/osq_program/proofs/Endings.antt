-- What `replay` tells where it doesn't end with Ok.
use Rattle.std.proofs.Common.{◌≡◌, ◌⊎◌, inl, inr, ℕ, List, [], ◌++◌, length, take, drop, Bool, append-nil, Option, Some, None, refl, sym, ap, ◌∙◌, subst}
use Rattle.std.proofs.Math.Seq.{drop-append_seam}
use Rattle.program_words.specs.Commands.{forwards}
use Rattle.program_words.specs.declared.command.ReplayWords.{ReplayWords}
use Rattle.osq_value.specs.declared.source.SourceName.{SourceName}
use Rattle.session_model.specs.Given.{Given}
use Rattle.session_model.specs.Orders.{Order}
use Rattle.entry_model.specs.declared.entry.Entry.{Entry}
use Rattle.replay_rounds.specs.Fixed.{Fixed}
use Rattle.replay_rounds.specs.Noting.{ArePlacesBut, CountsTo, HasTold, HasToldSome, HaveCounted, Place}
use Rattle.replay_rounds.proofs.Places.{places_now}
use Rattle.replay_rounds.proofs.Ran.{no_tick}
use Rattle.replay_rounds.proofs.Skips.{same_counted}
use Rattle.replay_rounds.specs.Stopping.{AreNumbersFor, Stops}
use Rattle.replay_rounds.specs.declared.refused.Numbers.{Numbers}
use Rattle.replay_rounds.specs.declared.refused.RunError.{RunError}
use Rattle.replay_rounds.specs.declared.refused.RunError.TheVariants as running
use Rattle.osq_program.specs.declared.status.Status.{Status}
use Rattle.osq_program.specs.declared.status.Status.TheVariants.{Ok as Done, Usage, FilesFault, ConfigRefused, KeeperFault, KeeperRefused, MomentTooLarge, SourceFault, SourceShrank, NumbersSpent, SinkFault, TicksSpent, QueryRefused, OutOfMemory}
use Rattle.osq_program.specs.Answers.{IsCaused, IsRefusal, no_causes}
use Rattle.osq_program.specs.Ending.{IsAnswerTo}
use Rattle.osq_program.specs.Observed.{Observed, link_faults}
use Rattle.osq_program.specs.Replaying.{IsReplayGiven, fixed, run_in}
use Rattle.osq_program.specs.Report.{EndsAs, Tells, TellsStop, final_line, refusal_line}
use Rattle.osq_program.specs.Answers.{status_number}
use Rattle.osq_program.specs.Telling.{AreNumbersAt, EndsStarved, EndsWhole, MayReplayTell, TellsReplay, TellsSome}
use Rattle.osq_program.proofs.Ended.{told_or_failed}
use Rattle.osq_program.proofs.Replays.{fixed_if, run_if, some_as, stops_as, told_as}
use Rattle.osq_program.proofs.Toldings.{as_stopped}

pub replay_may : (words : ReplayWords) (seen : Observed) (R : List ℕ → List ℕ → Type 0) (s : Status) → IsCaused (record no_causes { refused = R }) s → MayReplayTell words seen s []
replay_may words seen R Done caused = absurd caused
replay_may words seen R Usage caused = absurd caused
replay_may words seen R FilesFault caused = absurd caused
replay_may words seen R (ConfigRefused kind key) caused = refl
replay_may words seen R KeeperFault caused = absurd caused
replay_may words seen R KeeperRefused caused = absurd caused
replay_may words seen R (MomentTooLarge moment) caused = absurd caused
replay_may words seen R (SourceFault name) caused = absurd caused
replay_may words seen R (SourceShrank name kept found) caused = absurd caused
replay_may words seen R NumbersSpent caused = absurd caused
replay_may words seen R SinkFault caused = absurd caused
replay_may words seen R TicksSpent caused = absurd caused
replay_may words seen R (QueryRefused place kind) caused = absurd caused
replay_may words seen R OutOfMemory caused = refl

-- no session was begun
pub untold_replay : (order : Order) (words : ReplayWords) (seen : Observed) (status : Status) → seen.has_read [] → TellsSome (MayReplayTell words seen) seen status → TellsReplay order words seen status
untold_replay order words seen status unread some refusal = inl (record { front = some.front; may = some.before; unread = unread; told = some.behind })

-- what such a session told is told of one that ended early too
module _ (x : Fixed) (now : List Entry) (left_out before after : List ℕ) (has : HasTold x now left_out before after) where
  abbrev added : List Entry
  added = drop (length x.start) now

  list_is : x.keeper_tells → now ≡ x.start ++ added
  list_is told =
      let c = has.configured told in
      c.1 ∙ ap (λ (es : List Entry). x.start ++ es) (sym (ap (drop (length x.start)) c.1 ∙ drop-append_seam x.start c.0))

  told_to : CountsTo x now has.feeds
  told_to = record {
    front = added;
    kept_are = λ told. ([], no_tick, list_is told ∙ ap (λ (es : List Entry). x.start ++ es) (sym (append-nil added)));
    counted = λ told. subst (λ (list : List Entry). HaveCounted x.source_tells x.given.config.categories x.start list x.given.sources has.feeds) (list_is told)
        (same_counted x.source_tells (λ (bytes : List ℕ). bytes) x.given.config.categories x.start now x.given.sources has.feeds has.rests (has.fed told));
  }

  told_early : HasToldSome x now left_out before after
  told_early = record {
    places = has.places;
    configured = λ told.
        let c = has.configured told in
        subst (λ (places : List Place). ArePlacesBut x.start now places) (sym c.2) (places_now x.start now c.0 c.1);
    between = has.between;
    noted = has.noted;
    skipped = inr (has.feeds, told_to, has.skipped);
  }

-- a session that did all its ticks, of which the end could not be told
pub ran_telling : (order : Order) (words : ReplayWords) (seen : Observed) (status : Status) (given : Given) (is : IsReplayGiven words seen given) (between : List ℕ) (failed : Type 0) → (failed → seen.status_failed)
    → (seen.sink_tells → HasTold (fixed order words seen given) seen.kept_after is.notes seen.status_before between)
    → (IsRefusal status → seen.sink_tells → ((status ≡ OutOfMemory) × (seen.status_after ≡ between ++ refusal_line status)) ⊎ failed) → TellsReplay order words seen status
ran_telling order words seen status given is between failed more session ends refusal = inr (record {
  given = given;
  is = is;
  told = λ tells. by_end tells (ends refusal tells);
})
  where
    by_end : seen.sink_tells → ((status ≡ OutOfMemory) × (seen.status_after ≡ between ++ refusal_line status)) ⊎ failed
        → ((between : List ℕ) × HasToldSome (fixed order words seen given) seen.kept_after is.notes seen.status_before between × (EndsWhole order words seen given status between ⊎ EndsStarved seen status between)) ⊎ seen.status_failed
    by_end tells (inl (wanting, after)) =
        let has = session tells in
        inl (between, told_early (fixed order words seen given) seen.kept_after is.notes seen.status_before between has, inr (wanting, after))
    by_end tells (inr fault) = inr (more fault)

-- the numbers of a session that ended for this reason are those of its status
numbers_at : (order : Order) (words : ReplayWords) (seen : Observed) (given : Given) (sources : List SourceName) (e : RunError) (s : Status) (numbers : Numbers) → IsAnswerTo sources e s → AreNumbersFor e (run_in order words seen given) seen.kept_after numbers → AreNumbersAt order words s seen given numbers
numbers_at order words seen given sources running.KeeperFault s numbers is are = subst (λ (s : Status). AreNumbersAt order words s seen given numbers) (sym is) are
numbers_at order words seen given sources running.KeeperRefused s numbers is are = subst (λ (s : Status). AreNumbersAt order words s seen given numbers) (sym is) are
numbers_at order words seen given sources (running.MomentTooLarge moment) s numbers is are = subst (λ (s : Status). AreNumbersAt order words s seen given numbers) (sym is) are
numbers_at order words seen given sources (running.SourceFault place) s numbers (inl is) are = subst (λ (s : Status). AreNumbersAt order words s seen given numbers) (sym is) are
numbers_at order words seen given sources (running.SourceFault place) s numbers (inr (name, named, is)) are = subst (λ (s : Status). AreNumbersAt order words s seen given numbers) (sym is) are
numbers_at order words seen given sources (running.SourceShrank place had found) s numbers (inl is) are = subst (λ (s : Status). AreNumbersAt order words s seen given numbers) (sym is) are
numbers_at order words seen given sources (running.SourceShrank place had found) s numbers (inr (name, named, is)) are = subst (λ (s : Status). AreNumbersAt order words s seen given numbers) (sym is) are
numbers_at order words seen given sources running.NumbersSpent s numbers is are = subst (λ (s : Status). AreNumbersAt order words s seen given numbers) (sym is) are
numbers_at order words seen given sources running.SinkFault s numbers is are = subst (λ (s : Status). AreNumbersAt order words s seen given numbers) (sym is) are
numbers_at order words seen given sources running.NoMemory s numbers is are = subst (λ (s : Status). AreNumbersAt order words s seen given numbers) (sym is) are

-- a session that ended early
module _ (order : Order) (words : ReplayWords) (seen : Observed) (given : Given) (is : IsReplayGiven words seen given) (sources : List SourceName) (e : RunError) (answered status : Status) (between : List ℕ) (failed untold : Type 0) (answer : IsAnswerTo sources e answered) (more : failed → seen.status_failed) (faults : ℕ) (count : faults ≡ link_faults seen) where
  -- its list wasn't loaded
  unloaded_may : (e : RunError) (answered status : Status) → IsAnswerTo sources e answered → Stops (run_in order words seen given) seen.kept_after untold e None → (status ≡ answered) ⊎ (status ≡ OutOfMemory) → MayReplayTell words seen status []
  unloaded_may running.KeeperFault answered status answer stops how =
      as_stopped (λ (s : Status). MayReplayTell words seen s []) answered status how (subst (λ (s : Status). MayReplayTell words seen s []) (sym answer) ((given, is), refl)) refl
  unloaded_may running.KeeperRefused answered status answer stops how = absurd stops.0
  unloaded_may (running.MomentTooLarge moment) answered status answer stops how = absurd stops.0
  unloaded_may (running.SourceFault place) answered status answer stops how = absurd stops.0
  unloaded_may (running.SourceShrank place had found) answered status answer stops how = absurd stops.0
  unloaded_may running.NumbersSpent answered status answer stops how = absurd stops.0
  unloaded_may running.SinkFault answered status answer stops how = absurd stops.0
  unloaded_may running.NoMemory answered status answer stops how =
      as_stopped (λ (s : Status). MayReplayTell words seen s []) answered status how (subst (λ (s : Status). MayReplayTell words seen s []) (sym answer) refl) refl

  -- the line of its status and the final line
  ends_as : (numbers : Numbers) → AreNumbersFor e (run_in order words seen given) seen.kept_after numbers → EndsAs between seen.status_after answered status numbers faults → EndsWhole order words seen given status between ⊎ EndsStarved seen status between
  ends_as numbers are (inl (same, after)) =
      inl (subst (λ (s : Status). EndsWhole order words seen given s between) (sym same) (numbers, numbers_at order words seen given sources e answered numbers answer are, after ∙ ap (λ (n : ℕ). between ++ (refusal_line answered ++ final_line (status_number answered) numbers n)) count))
  ends_as numbers are (inr (wanting, after)) = inr (wanting, after)

  pub stopped_telling : (known : Option Numbers) → Stops (run_in order words seen given) seen.kept_after untold e known → (untold → between ≡ seen.status_before)
      → (seen.sink_tells → HasToldSome (fixed order words seen given) seen.kept_after is.notes seen.status_before between ⊎ seen.status_failed) → (seen.sink_tells → TellsStop failed between seen.status_after answered status known faults)
      → (status ≡ answered) ⊎ (status ≡ OutOfMemory) → TellsReplay order words seen status
  stopped_telling None stops same some told how refusal = inl (record {
    front = [];
    may = unloaded_may e answered status answer stops how;
    unread = stops.1;
    told = λ tells. by_tells (same stops.2) ((told tells).1);
  })
    where
      by_tells : between ≡ seen.status_before → Tells failed between seen.status_after (refusal_line status) → Tells seen.status_failed seen.status_before seen.status_after (refusal_line status)
      by_tells same (inl after) = inl (after ∙ ap (λ (text : List ℕ). text ++ refusal_line status) same)
      by_tells same (inr (fault, (count, after))) = inr (more fault, (count, subst (λ (text : List ℕ). seen.status_after ≡ text ++ take count (refusal_line status)) same after))
  stopped_telling (Some numbers) stops same some told how refusal = inr (record { given = given; is = is; told = λ tells. by_told (some tells) (told tells) })
    where
      by_told : HasToldSome (fixed order words seen given) seen.kept_after is.notes seen.status_before between ⊎ seen.status_failed → EndsAs between seen.status_after answered status numbers faults ⊎ failed
          → ((between : List ℕ) × HasToldSome (fixed order words seen given) seen.kept_after is.notes seen.status_before between × (EndsWhole order words seen given status between ⊎ EndsStarved seen status between)) ⊎ seen.status_failed
      by_told (inl has) (inl ends) = inl (between, has, ends_as numbers stops ends)
      by_told (inl has) (inr fault) = inr (more fault)
      by_told (inr fault) ends = inr fault

-- the same of a run of which it is told apart from the words whether it forwards
pub ran_telling_if : (order : Order) (words : ReplayWords) (seen : Observed) (status : Status) (given : Given) (is : IsReplayGiven words seen given) (forward : Bool) → forward ≡ forwards words → (between : List ℕ) (failed : Type 0) → (failed → seen.status_failed)
    → (seen.sink_tells → HasTold (fixed_if forward order seen given) seen.kept_after is.notes seen.status_before between)
    → (IsRefusal status → seen.sink_tells → ((status ≡ OutOfMemory) × (seen.status_after ≡ between ++ refusal_line status)) ⊎ failed) → TellsReplay order words seen status
ran_telling_if order words seen status given is forward same between failed more session ends =
    ran_telling order words seen status given is between failed more (λ tells. told_as order words seen given forward same is.notes between (session tells)) ends

pub stopped_telling_if : (order : Order) (words : ReplayWords) (seen : Observed) (given : Given) (is : IsReplayGiven words seen given) (forward : Bool) → forward ≡ forwards words
    → (sources : List SourceName) (e : RunError) (answered status : Status) (between : List ℕ) (failed untold : Type 0) → IsAnswerTo sources e answered → (failed → seen.status_failed) → (faults : ℕ) → faults ≡ link_faults seen
    → (known : Option Numbers) → Stops (run_if forward order seen given) seen.kept_after untold e known → (untold → between ≡ seen.status_before)
    → (seen.sink_tells → HasToldSome (fixed_if forward order seen given) seen.kept_after is.notes seen.status_before between ⊎ seen.status_failed) → (seen.sink_tells → TellsStop failed between seen.status_after answered status known faults)
    → (status ≡ answered) ⊎ (status ≡ OutOfMemory) → TellsReplay order words seen status
stopped_telling_if order words seen given is forward same sources e answered status between failed untold answer more faults count known stops begun some told how =
    stopped_telling order words seen given is sources e answered status between failed untold answer more faults count known (stops_as order words seen given forward same untold e known stops) begun
    (λ tells. told_or_failed (some_as order words seen given forward same is.notes between) (some tells)) told how
