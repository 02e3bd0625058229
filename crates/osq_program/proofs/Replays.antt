-- From what the parts of a run ensure to what `replay` does.
use Rattle.std.proofs.Common.{◌≡◌, ◌⊎◌, inl, inr, ◌<◌, ℕ, Bool, true, false, List, [], ◌∷◌, ◌++◌, map, length, take, refl, sym, ap, ◌∙◌, subst, slice_get, arith, Some, suc, zero}
use Rattle.std.specs.Prelude.{Option, option_map}
use Rattle.std.proofs.lemmas.Option.{same_Some, slice_get-map, slice_get_within}
use Rattle.config_files.specs.Configurations.{IsConfigured}
use Rattle.osq_config.specs.declared.config.Config.{Config}
use Rattle.entry_model.specs.declared.restored.Taken.{Taken}
use Rattle.entry_model.specs.Fits.{Fits}
use Rattle.entry_model.specs.Next.{offset_at}
use Rattle.entry_model.specs.Summary.{summary}
use Rattle.entry_model.specs.Values.{taken_from}
use Rattle.entry_model.proofs.Summaries.{taken_is}
use Rattle.program_words.specs.Commands.{forwards}
use Rattle.program_words.specs.declared.command.ReplayWords.{ReplayWords}
use Rattle.osq_value.specs.declared.source.SourceName.{SourceName}
use Rattle.session_model.specs.Given.{Given}
use Rattle.session_model.specs.Orders.{Order}
use Rattle.daemon_rounds.specs.declared.setup.Setup.{Setup}
use Rattle.daemon_rounds.specs.Rounding.{FailsAt}
use Rattle.daemon_rounds.specs.Starting as starting
use Rattle.replay_rounds.specs.declared.running.Ended.{Ended}
use Rattle.replay_rounds.specs.declared.refused.RunError.{RunError}
use Rattle.replay_rounds.specs.declared.refused.RunError.TheVariants as running
use Rattle.replay_rounds.specs.Fixed.{Fixed, Run, given_of}
use Rattle.replay_rounds.specs.Noting.{HasTold, HasToldSome}
use Rattle.replay_rounds.specs.Running.{HasRun, IsKept, IsWritten}
use Rattle.replay_rounds.specs.Sources.{sources_of}
use Rattle.replay_rounds.specs.Spent.{RanOutOfNumbers}
use Rattle.replay_rounds.specs.Stopping.{Stops}
use Rattle.replay_rounds.specs.declared.refused.Numbers.{Numbers}
use Rattle.osq_program.specs.declared.status.Status.{Status}
use Rattle.osq_program.specs.declared.status.Status.TheVariants.{Ok as Done, Usage, FilesFault, ConfigRefused, KeeperFault, KeeperRefused, MomentTooLarge, SourceFault, SourceShrank, NumbersSpent, SinkFault, TicksSpent, QueryRefused, OutOfMemory}
use Rattle.osq_program.specs.Answers.{Causes, IsCaused, IsDoneStatus, IsSpentStatus, IsUsageStatus, IsRefusal, no_causes}
use Rattle.osq_program.specs.Checking.{IsRefusedFor}
use Rattle.osq_program.specs.Ending.{IsAnswerTo, IsNamedAt}
use Rattle.osq_program.specs.Reasons.{HasShrunk, IsFit}
use Rattle.osq_program.specs.Replaying.{IsAccepted, IsReplayGiven, IsReplay, IsToldBy, Ran, causes_of, fixed, run_in}
use Rattle.osq_program.specs.Report.{final_line, refusal_line}
use Rattle.osq_program.specs.Setups.{setup_in, sources_named}
use Rattle.osq_program.specs.Observed.{Observed, link_faults}
use Rattle.osq_program.proofs.Setups.{sources_are}

-- a refusal with a cause is no other answer
pub not_done : (c : Causes) (s : Status) → IsCaused c s → IsDoneStatus s → ⊥
not_done c Done caused is = caused
not_done c Usage caused is = is
not_done c FilesFault caused is = is
not_done c (ConfigRefused kind key) caused is = is
not_done c KeeperFault caused is = is
not_done c KeeperRefused caused is = is
not_done c (MomentTooLarge moment) caused is = is
not_done c (SourceFault name) caused is = is
not_done c (SourceShrank name kept found) caused is = is
not_done c NumbersSpent caused is = is
not_done c SinkFault caused is = is
not_done c TicksSpent caused is = is
not_done c (QueryRefused place kind) caused is = is
not_done c OutOfMemory caused is = is

pub not_spent : (c : Causes) (s : Status) → IsCaused c s → IsSpentStatus s → ⊥
not_spent c Done caused is = is
not_spent c Usage caused is = is
not_spent c FilesFault caused is = is
not_spent c (ConfigRefused kind key) caused is = is
not_spent c KeeperFault caused is = is
not_spent c KeeperRefused caused is = is
not_spent c (MomentTooLarge moment) caused is = is
not_spent c (SourceFault name) caused is = is
not_spent c (SourceShrank name kept found) caused is = is
not_spent c NumbersSpent caused is = is
not_spent c SinkFault caused is = is
not_spent c TicksSpent caused is = caused
not_spent c (QueryRefused place kind) caused is = is
not_spent c OutOfMemory caused is = is

pub not_usage : (c : Causes) (s : Status) → IsCaused c s → IsUsageStatus s → ⊥
not_usage c Done caused is = is
not_usage c Usage caused is = caused
not_usage c FilesFault caused is = is
not_usage c (ConfigRefused kind key) caused is = is
not_usage c KeeperFault caused is = is
not_usage c KeeperRefused caused is = is
not_usage c (MomentTooLarge moment) caused is = is
not_usage c (SourceFault name) caused is = is
not_usage c (SourceShrank name kept found) caused is = is
not_usage c NumbersSpent caused is = is
not_usage c SinkFault caused is = is
not_usage c TicksSpent caused is = is
not_usage c (QueryRefused place kind) caused is = is
not_usage c OutOfMemory caused is = is

-- the configuration is refused
config_cause : (order : Order) (words : ReplayWords) (seen : Observed) (s : Status) → IsCaused (record no_causes { files = seen.files_failed; refused = IsRefusedFor seen.files_tell seen.file words.config }) s → IsCaused (causes_of order words seen) s
config_cause order words seen Done caused = caused
config_cause order words seen Usage caused = caused
config_cause order words seen FilesFault caused = caused
config_cause order words seen (ConfigRefused kind key) caused = caused
config_cause order words seen KeeperFault caused = absurd caused
config_cause order words seen KeeperRefused caused = absurd caused
config_cause order words seen (MomentTooLarge moment) caused = absurd caused
config_cause order words seen (SourceFault name) caused = absurd caused
config_cause order words seen (SourceShrank name kept found) caused = absurd caused
config_cause order words seen NumbersSpent caused = absurd caused
config_cause order words seen SinkFault caused = absurd caused
config_cause order words seen TicksSpent caused = caused
config_cause order words seen (QueryRefused place kind) caused = caused
config_cause order words seen OutOfMemory caused = tt

-- the last line of a whole session could not be written
line_cause : (order : Order) (words : ReplayWords) (seen : Observed) → IsAccepted words seen → IsFit seen → (s : Status) → IsCaused (record no_causes { sink = seen.status_failed }) s → IsCaused (causes_of order words seen) s
line_cause order words seen accepted fit Done caused = caused
line_cause order words seen accepted fit Usage caused = caused
line_cause order words seen accepted fit FilesFault caused = absurd caused
line_cause order words seen accepted fit (ConfigRefused kind key) caused = absurd caused
line_cause order words seen accepted fit KeeperFault caused = absurd caused
line_cause order words seen accepted fit KeeperRefused caused = absurd caused
line_cause order words seen accepted fit (MomentTooLarge moment) caused = absurd caused
line_cause order words seen accepted fit (SourceFault name) caused = absurd caused
line_cause order words seen accepted fit (SourceShrank name kept found) caused = absurd caused
line_cause order words seen accepted fit NumbersSpent caused = absurd caused
line_cause order words seen accepted fit SinkFault caused = (accepted, fit, inr caused)
line_cause order words seen accepted fit TicksSpent caused = caused
line_cause order words seen accepted fit (QueryRefused place kind) caused = caused
line_cause order words seen accepted fit OutOfMemory caused = tt

-- a run that ended before its session was done
pub stopped : (order : Order) (words : ReplayWords) (seen : Observed) (s : Status) → IsCaused (causes_of order words seen) s
    → (seen.keeper_tells → ((seen.kept_after ≡ seen.kept_before) × seen.has_read []) ⊎ ((given : Given) × IsReplayGiven words seen given × IsKept (run_in order words seen given) seen.kept_after))
    → (seen.sink_tells → ((seen.results_after ≡ seen.results_before) × seen.has_read []) ⊎ ((given : Given) × IsReplayGiven words seen given × IsWritten (fixed order words seen given) seen.kept_after seen.results_after))
    → IsReplay order words seen s
stopped order words seen s caused kept written = record {
  done = λ done. absurd (not_done (causes_of order words seen) s caused done);
  spent = λ spent. absurd (not_spent (causes_of order words seen) s caused spent);
  cause = λ refusal. caused;
  kept = kept;
  written = written;
}

-- before its session began
unbegun : (order : Order) (words : ReplayWords) (seen : Observed) (s : Status) → IsCaused (causes_of order words seen) s → seen.has_read [] → (seen.keeper_tells → seen.kept_after ≡ seen.kept_before) → (seen.sink_tells → seen.results_after ≡ seen.results_before)
    → IsReplay order words seen s
unbegun order words seen s caused unread kept same = stopped order words seen s caused (λ tells. inl (kept tells, unread)) (λ tells. inl (same tells, unread))

pub refused_config : (order : Order) (words : ReplayWords) (seen : Observed) (s : Status) → IsCaused (record no_causes { files = seen.files_failed; refused = IsRefusedFor seen.files_tell seen.file words.config }) s → seen.has_read []
    → (seen.keeper_tells → seen.kept_after ≡ seen.kept_before) → (seen.sink_tells → seen.results_after ≡ seen.results_before) → IsReplay order words seen s
refused_config order words seen s caused unread kept same = unbegun order words seen s (config_cause order words seen s caused) unread kept same

pub no_memory : (order : Order) (words : ReplayWords) (seen : Observed) (r : Status) → r ≡ OutOfMemory → seen.has_read [] → (seen.keeper_tells → seen.kept_after ≡ seen.kept_before) → (seen.sink_tells → seen.results_after ≡ seen.results_before)
    → IsReplay order words seen r
no_memory order words seen r is unread kept same = subst (IsReplay order words seen) (sym is) (unbegun order words seen OutOfMemory tt unread kept same)

-- what a session is given by its setup
abbrev pub given_is : {S : Type 0} (left : S → List ℕ) (words : ReplayWords) (seen : Observed) (setup : Setup) (config : Config) (documents : List (List ℕ)) (notes : List ℕ) (objects : List S) → setup ≡ setup_in words
    → seen.all_bytes ≡ map left objects → IsConfigured seen.files_tell seen.file words.config config documents notes → IsReplayGiven words seen (given_of setup config documents left objects)
given_is left words seen setup config documents notes objects is bytes configured = record {
  notes = notes;
  configured = configured;
  host = ap (λ (s : Setup). s.host) is;
  sources = ap (λ (s : Setup). sources_of left s.sources objects) is ∙ sources_are left words.sources objects ∙ ap (sources_named words.sources) (sym bytes);
  records = ap (λ (s : Setup). s.records) is;
}

-- a run of which it is told apart from the words whether it forwards
abbrev pub fixed_if : Bool → Order → Observed → Given → Fixed
fixed_if forward order seen given =
    record {
      order = order;
      keeper_tells = seen.keeper_tells;
      sink_tells = seen.sink_tells;
      source_tells = seen.source_tells;
      given = given;
      start = seen.kept_before;
      written = seen.results_before;
      link = record { forwards = forward; tells = seen.link_tells; before = seen.link_before };
    }

abbrev pub run_if : Bool → Order → Observed → Given → Run
run_if forward order seen given = record { fixed = fixed_if forward order seen given; has_read = seen.has_read }

-- where it forwards as the words say it is that of the words
module _ (order : Order) (words : ReplayWords) (seen : Observed) (given : Given) (forward : Bool) (same : forward ≡ forwards words) where
  pub run_as : (ended : Ended) → HasRun (run_if forward order seen given) words.ticks seen.kept_after seen.results_after seen.link_after ended → HasRun (run_in order words seen given) words.ticks seen.kept_after seen.results_after seen.link_after ended
  run_as ended = subst (λ (b : Bool). HasRun (run_if b order seen given) words.ticks seen.kept_after seen.results_after seen.link_after ended) same

  pub kept_as : IsKept (run_if forward order seen given) seen.kept_after → IsKept (run_in order words seen given) seen.kept_after
  kept_as = subst (λ (b : Bool). IsKept (run_if b order seen given) seen.kept_after) same

  pub written_as : IsWritten (fixed_if forward order seen given) seen.kept_after seen.results_after → IsWritten (fixed order words seen given) seen.kept_after seen.results_after
  written_as = subst (λ (b : Bool). IsWritten (fixed_if b order seen given) seen.kept_after seen.results_after) same

  pub spent_as : RanOutOfNumbers (run_if forward order seen given) seen.kept_after → RanOutOfNumbers (run_in order words seen given) seen.kept_after
  spent_as = subst (λ (b : Bool). RanOutOfNumbers (run_if b order seen given) seen.kept_after) same

  pub told_as : (notes between : List ℕ) → HasTold (fixed_if forward order seen given) seen.kept_after notes seen.status_before between → HasTold (fixed order words seen given) seen.kept_after notes seen.status_before between
  told_as notes between = subst (λ (b : Bool). HasTold (fixed_if b order seen given) seen.kept_after notes seen.status_before between) same

  pub some_as : (notes between : List ℕ) → HasToldSome (fixed_if forward order seen given) seen.kept_after notes seen.status_before between → HasToldSome (fixed order words seen given) seen.kept_after notes seen.status_before between
  some_as notes between = subst (λ (b : Bool). HasToldSome (fixed_if b order seen given) seen.kept_after notes seen.status_before between) same

  pub stops_as : (untold : Type 0) (e : RunError) (known : Option Numbers) → Stops (run_if forward order seen given) seen.kept_after untold e known → Stops (run_in order words seen given) seen.kept_after untold e known
  stops_as untold e known = subst (λ (b : Bool). Stops (run_if b order seen given) seen.kept_after untold e known) same

-- a session that did all its ticks, and what was then told of it
module _ (order : Order) (words : ReplayWords) (seen : Observed) (status : Status) (given : Given) (is : IsReplayGiven words seen given) (ended : Ended)
    (run : HasRun (run_in order words seen given) words.ticks seen.kept_after seen.results_after seen.link_after ended) (between : List ℕ) (session : seen.sink_tells → HasTold (fixed order words seen given) seen.kept_after is.notes seen.status_before between) (fit : seen.keeper_tells → Fits (summary seen.kept_before))
    (faults : ℕ) (count : faults ≡ link_faults seen) where
  abbrev ran_with : (is_end : Bool) → ended.is_end ≡ is_end → Ran order words seen is_end
  ran_with is_end end_is = record { given = given; is = is; ended = ended; end_is = end_is; run = run; fit = fit }

  told_by : (text : ℕ → List ℕ) → seen.sink_tells → seen.status_after ≡ between ++ text faults → IsToldBy order words seen given is.notes (text (link_faults seen))
  told_by text tells written = (between, session tells, written ∙ ap (λ (n : ℕ). between ++ text n) count)

  -- the last lines of each end, where the link failed so often
  abbrev whole_text : ℕ → List ℕ
  whole_text n = final_line 0 ended.numbers n

  abbrev spent_text : ℕ → List ℕ
  spent_text n = refusal_line TicksSpent ++ final_line 11 ended.numbers n

  told_spent : (failed : Type 0) → (failed → seen.status_failed) → seen.sink_tells → (seen.status_after ≡ between ++ spent_text faults) ⊎ failed
      → IsToldBy order words seen given is.notes (spent_text (link_faults seen)) ⊎ seen.status_failed
  told_spent failed more tells (inl written) = inl (told_by spent_text tells written)
  told_spent failed more tells (inr rose) = inr (more rose)

  pub ran : (failed : Type 0) → (failed → seen.status_failed) → (IsDoneStatus status → (ended.is_end ≡ true) × (seen.sink_tells → seen.status_after ≡ between ++ whole_text faults))
      → (IsSpentStatus status → (ended.is_end ≡ false) × (seen.sink_tells → (seen.status_after ≡ between ++ spent_text faults) ⊎ failed))
      → (IsRefusal status → IsCaused (record no_causes { sink = failed }) status)
      → (seen.keeper_tells → IsKept (run_in order words seen given) seen.kept_after) → (seen.sink_tells → IsWritten (fixed order words seen given) seen.kept_after seen.results_after) → IsReplay order words seen status
  ran failed more done spent cause kept written = record {
    done = λ finished.
        let end = done finished in
        (ran_with true end.0, λ tells. told_by whole_text tells (end.1 tells));
    spent = λ finished.
        let end = spent finished in
        (ran_with false end.0, λ tells. told_spent failed more tells (end.1 tells));
    cause = λ refusal. line_cause order words seen (given, is) fit status (failed_more status (cause refusal));
    kept = λ tells. inr (given, is, kept tells);
    written = λ tells. inr (given, is, written tells);
  } where
    failed_more : (s : Status) → IsCaused (record no_causes { sink = failed }) s → IsCaused (record no_causes { sink = seen.status_failed }) s
    failed_more Done caused = caused
    failed_more Usage caused = caused
    failed_more FilesFault caused = absurd caused
    failed_more (ConfigRefused kind key) caused = absurd caused
    failed_more KeeperFault caused = absurd caused
    failed_more KeeperRefused caused = absurd caused
    failed_more (MomentTooLarge moment) caused = absurd caused
    failed_more (SourceFault name) caused = absurd caused
    failed_more (SourceShrank name kept found) caused = absurd caused
    failed_more NumbersSpent caused = absurd caused
    failed_more SinkFault caused = more caused
    failed_more TicksSpent caused = caused
    failed_more (QueryRefused place kind) caused = caused
    failed_more OutOfMemory caused = tt

-- the same of a run of which it is told apart from the words whether it forwards
module _ (order : Order) (words : ReplayWords) (seen : Observed) (status : Status) (given : Given) (is : IsReplayGiven words seen given) (forward : Bool) (same : forward ≡ forwards words) where
  pub ran_if : (ended : Ended) → HasRun (run_if forward order seen given) words.ticks seen.kept_after seen.results_after seen.link_after ended → (between : List ℕ) → (seen.sink_tells → HasTold (fixed_if forward order seen given) seen.kept_after is.notes seen.status_before between) → (seen.keeper_tells → Fits (summary seen.kept_before))
      → (faults : ℕ) → faults ≡ link_faults seen → (failed : Type 0) → (failed → seen.status_failed) → (IsDoneStatus status → (ended.is_end ≡ true) × (seen.sink_tells → seen.status_after ≡ between ++ final_line 0 ended.numbers faults))
      → (IsSpentStatus status → (ended.is_end ≡ false) × (seen.sink_tells → (seen.status_after ≡ between ++ (refusal_line TicksSpent ++ final_line 11 ended.numbers faults)) ⊎ failed))
      → (IsRefusal status → IsCaused (record no_causes { sink = failed }) status)
      → (seen.keeper_tells → IsKept (run_if forward order seen given) seen.kept_after) → (seen.sink_tells → IsWritten (fixed_if forward order seen given) seen.kept_after seen.results_after) → IsReplay order words seen status
  ran_if ended run between session fit faults count failed more done spent cause kept written =
      ran order words seen status given is ended (run_as order words seen given forward same ended run) between (λ tells. told_as order words seen given forward same is.notes between (session tells)) fit faults count failed more done spent cause
      (λ tells. kept_as order words seen given forward same (kept tells)) (λ tells. written_as order words seen given forward same (written tells))

  pub stopped_if : ((IsFit seen → RanOutOfNumbers (run_if forward order seen given) seen.kept_after → (given : Given) × IsReplayGiven words seen given × IsFit seen × RanOutOfNumbers (run_in order words seen given) seen.kept_after) → IsCaused (causes_of order words seen) status)
      → (seen.keeper_tells → IsKept (run_if forward order seen given) seen.kept_after) → (seen.sink_tells → IsWritten (fixed_if forward order seen given) seen.kept_after seen.results_after) → IsReplay order words seen status
  stopped_if caused kept written =
      stopped order words seen status (caused (λ fit spends. (given, is, fit, spent_as order words seen given forward same spends)))
      (λ tells. inr (given, is, kept_as order words seen given forward same (kept tells))) (λ tells. inr (given, is, written_as order words seen given forward same (written tells)))

-- the answer to the end of a session is caused by it
pub answered : (c : Causes) (sources : List SourceName) (e : RunError) (s : Status) → IsAnswerTo sources e s → (e ≡ running.KeeperFault → c.keeper) → (e ≡ running.KeeperRefused → c.unfit)
    → ((moment : ℕ) → e ≡ running.MomentTooLarge moment → c.moment moment)
    → ((place : ℕ) (name : List ℕ) → e ≡ running.SourceFault place → IsNamedAt sources place name → c.source name)
    → ((place kept found : ℕ) (name : List ℕ) → e ≡ running.SourceShrank place kept found → IsNamedAt sources place name → c.shrank name kept found)
    → (e ≡ running.NumbersSpent → c.numbers) → (e ≡ running.SinkFault → c.sink) → IsCaused c s
answered c sources running.KeeperFault s is keeper unfit moment source shrank numbers sink = subst (IsCaused c) (sym is) (keeper refl)
answered c sources running.KeeperRefused s is keeper unfit moment source shrank numbers sink = subst (IsCaused c) (sym is) (unfit refl)
answered c sources (running.MomentTooLarge at) s is keeper unfit moment source shrank numbers sink = subst (IsCaused c) (sym is) (moment at refl)
answered c sources (running.SourceFault place) s (inl is) keeper unfit moment source shrank numbers sink = subst (IsCaused c) (sym is) tt
answered c sources (running.SourceFault place) s (inr (name, named, is)) keeper unfit moment source shrank numbers sink = subst (IsCaused c) (sym is) (source place name refl named)
answered c sources (running.SourceShrank place kept found) s (inl is) keeper unfit moment source shrank numbers sink = subst (IsCaused c) (sym is) tt
answered c sources (running.SourceShrank place kept found) s (inr (name, named, is)) keeper unfit moment source shrank numbers sink = subst (IsCaused c) (sym is) (shrank place kept found name refl named)
answered c sources running.NumbersSpent s is keeper unfit moment source shrank numbers sink = subst (IsCaused c) (sym is) (numbers refl)
answered c sources running.SinkFault s is keeper unfit moment source shrank numbers sink = subst (IsCaused c) (sym is) (sink refl)
answered c sources running.NoMemory s is keeper unfit moment source shrank numbers sink = subst (IsCaused c) (sym is) tt

-- the name at a place of the sources
same_name : (sources : List SourceName) (place : ℕ) (name : List ℕ) (source : SourceName) → IsNamedAt sources place name → slice_get sources place ≡ Some source → source.name ≡ name
same_name sources place name source named there =
    ap (λ (s : SourceName). s.name) (same_Some source named.source (sym there ∙ named.there)) ∙ sym named.name_is

-- a source that shrank, by the words
pub shrank_by : {S : Type 0} (left : S → List ℕ) (sources : List SourceName) (seen : Observed) (names : List SourceName) (objects : List S) (taken : List Taken) (place kept found : ℕ) (name : List ℕ) → names ≡ sources
    → seen.all_bytes ≡ map left objects → (seen.keeper_tells → taken ≡ (summary seen.kept_before).taken)
    → starting.HasShrunk seen.source_tells left taken names place kept found objects → IsNamedAt sources place name → HasShrunk sources seen name kept found
shrank_by left sources seen names objects taken place kept found name is bytes taken_there h named =
    let there = sym (ap (λ (ns : List SourceName). slice_get ns place) is) ∙ h.named in
    let same = same_name sources place name h.name named there in
    record {
      place = place;
      named = named;
      short = h.short;
      kept_is = λ tells. h.kept_is ∙ ap (λ (t : List Taken). offset_at t h.name.name) (taken_there tells) ∙ taken_is seen.kept_before h.name.name ∙ ap (taken_from seen.kept_before) same;
      ended = λ tells. (left h.source, ap (λ (bs : List (List ℕ)). slice_get bs place) bytes ∙ slice_get-map left objects place ∙ ap (option_map left) h.source_there, h.ended tells);
    }

-- a place that a list has is below its length
pub is_within : {X Y : Type 0} (xs : List X) (ys : List Y) (place : ℕ) (x : X) → length xs ≡ length ys → slice_get xs place ≡ Some x → place < length ys
is_within xs ys place x same there = subst (λ (n : ℕ). place < n) same (slice_get_within xs place x there)

-- what stands at a place of a list stands there of the list with more behind it, as far as that is taken
still_there : {X : Type 0} (xs others : List X) (count place : ℕ) (x : X) → slice_get xs place ≡ Some x → place < count → slice_get (take count (xs ++ others)) place ≡ Some x
still_there [] others count place x there below = absurd cc
still_there (y ∷ xs) others zero place x there below = absurd (omega (arith, below))
still_there (y ∷ xs) others (suc count) zero x there below = there
still_there (y ∷ xs) others (suc count) (suc place) x there below = still_there xs others count place x there (omega (arith, below))

-- a source that failed among the slice of all of them
pub fails_there : {S : Type 0} (faults : S → ℕ) (place count : ℕ) (sources objects rests others : List S) → sources ≡ objects → length sources ≡ count → FailsAt faults place sources rests
    → FailsAt faults place objects (take count (rests ++ others))
fails_there {S = S} faults place count sources objects rests others same long fails = record {
  source = fails.source;
  rest = fails.rest;
  was = ap (λ (ss : List S). slice_get ss place) (sym same) ∙ fails.was;
  is = still_there rests others count place fails.rest fails.is (let below = slice_get_within sources place fails.source fails.was in omega (arith, below, long));
  rose = fails.rose;
}
