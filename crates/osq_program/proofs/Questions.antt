-- From what the parts of a query ensure to what `query` does.
use Rattle.std.proofs.Common.{◌≡◌, inl, inr, ◌≤◌, ℕ, Bool, true, false, List, [], ◌++◌, map, take, refl, sym, ap, ◌∙◌, subst, Some, None}
use Rattle.osq_value.specs.declared.moment.TheConstants.{LAST_MOMENT}
use Rattle.osq_value.specs.declared.reading.Category.{Category}
use Rattle.osq_value.specs.declared.value.Value.{Value}
use Rattle.entry_model.specs.declared.entry.Entry.{Entry}
use Rattle.entry_model.specs.declared.restored.Taken.{Taken}
use Rattle.entry_model.specs.Fits.{Fits}
use Rattle.entry_model.specs.Legal.{Legal}
use Rattle.entry_model.specs.Summary.{summary}
use Rattle.program_words.specs.declared.command.QueryWords.{QueryWords}
use Rattle.sql_texts.specs.Meaning.{is_accepted, names_of}
use Rattle.sql_query.specs.Answers.{result_names}
use Rattle.sql_query.specs.Resolved.{QueryTree}
use Rattle.sql_texts.specs.TextFaults.{text_fault}
use Rattle.sql_texts.specs.Texts.{query_in}
use Rattle.session_model.specs.Given.{Given}
use Rattle.osq_value.specs.declared.source.SourceName.{SourceName}
use Rattle.replay_rounds.specs.Sources.{sources_of}
use Rattle.replay_rounds.specs.declared.refused.RunError.TheVariants as running
use Rattle.query_rounds.specs.Asking as asking
use Rattle.query_rounds.specs.Skipping.{TellsSkipped}
use Rattle.query_rounds.specs.declared.asking.Asked.{Asked}
use Rattle.query_rounds.specs.declared.error.AskError.{AskError}
use Rattle.query_rounds.specs.declared.error.AskError.TheVariants as ask
use Rattle.osq_program.specs.declared.status.Status.{Status}
use Rattle.osq_program.specs.declared.status.Status.TheVariants.{Ok as Done, Usage, FilesFault, ConfigRefused, KeeperFault, KeeperRefused, MomentTooLarge, SourceFault, SourceShrank, NumbersSpent, SinkFault, TicksSpent, QueryRefused, OutOfMemory}
use Rattle.osq_program.specs.Answers.{Causes, IsCaused, IsDoneStatus, IsRefusal, no_causes}
use Rattle.osq_program.specs.Ending.{IsAnswerTo, ended_by}
use Rattle.osq_program.specs.Querying.{HasAnswer, IsQueryGiven, IsPosed, IsQuery, IsRefusedAt, QueryLeaves, Writes, causes_of, lines_in, row_lines}
use Rattle.osq_program.specs.Report.{IsRefusedAs}
use Rattle.osq_program.specs.Setups.{sources_named}
use Rattle.osq_program.specs.Telling.{ArePosed, EndsShort, MayQueryTell}
use Rattle.osq_program.specs.Observed.{Observed}
use Rattle.osq_program.specs.Watching.{AreWatched, IsRefusedIn}
use Rattle.osq_program.proofs.Setups.{sources_are}
use Rattle.osq_program.proofs.Toldings.{as_plain}

-- each of these causes is one of those
pub record Within (c d : Causes) : Type 0 where
  pub query : (place : ℕ) (kind : List ℕ) → c.query place kind → d.query place kind
  pub files : c.files → d.files
  pub refused : (kind key : List ℕ) → c.refused kind key → d.refused kind key
  pub keeper : c.keeper → d.keeper
  pub unfit : c.unfit → d.unfit
  pub moment : (moment : ℕ) → c.moment moment → d.moment moment
  pub source : (name : List ℕ) → c.source name → d.source name
  pub shrank : (name : List ℕ) (kept found : ℕ) → c.shrank name kept found → d.shrank name kept found
  pub numbers : c.numbers → d.numbers
  pub sink : c.sink → d.sink

caused_by_more : (c d : Causes) → Within c d → (s : Status) → IsCaused c s → IsCaused d s
caused_by_more c d more Done caused = caused
caused_by_more c d more Usage caused = caused
caused_by_more c d more FilesFault caused = more.files caused
caused_by_more c d more (ConfigRefused kind key) caused = more.refused kind.now key caused
caused_by_more c d more KeeperFault caused = more.keeper caused
caused_by_more c d more KeeperRefused caused = more.unfit caused
caused_by_more c d more (MomentTooLarge moment) caused = more.moment moment caused
caused_by_more c d more (SourceFault name) caused = more.source name caused
caused_by_more c d more (SourceShrank name kept found) caused = more.shrank name kept found caused
caused_by_more c d more NumbersSpent caused = more.numbers caused
caused_by_more c d more SinkFault caused = more.sink caused
caused_by_more c d more TicksSpent caused = caused
caused_by_more c d more (QueryRefused place kind) caused = more.query place kind.now caused
caused_by_more c d more OutOfMemory caused = tt

-- nothing is written where the sources had more, and a front part at a fault
pub writes_spent : (tells : Type 0) (is_end : Bool) (before after lines : List ℕ) (failed : Type 0) (s : Status) → IsRefusedAs TicksSpent s → is_end ≡ false → (tells → after ≡ before) → Writes tells is_end before after lines failed s
writes_spent tells is_end before after lines failed s is more same = subst (Writes tells is_end before after lines failed) (sym (as_plain TicksSpent s (λ none. none) is)) (more, same)

pub writes_fault : (tells : Type 0) (is_end : Bool) (before after lines : List ℕ) (failed : Type 0) (s : Status) → IsRefusedAs SinkFault s → is_end ≡ true → failed → (tells → (count : ℕ) × (after ≡ before ++ take count lines)) → Writes tells is_end before after lines failed s
writes_fault tells is_end before after lines failed s is whole fault part = subst (Writes tells is_end before after lines failed) (sym (as_plain SinkFault s (λ none. none) is)) (whole, fault, part)

-- a refusal leaves the results as they were, where a fault of a sink was one of the status stream
leaves_same : (words : QueryWords) (seen : Observed) (c : Causes) (s : Status) → IsCaused c s → (c.sink → seen.status_failed) → (seen.sink_tells → seen.results_after ≡ seen.results_before) → QueryLeaves words seen s
leaves_same words seen c Done caused sink same = absurd caused
leaves_same words seen c Usage caused sink same = absurd caused
leaves_same words seen c FilesFault caused sink same = same
leaves_same words seen c (ConfigRefused kind key) caused sink same = same
leaves_same words seen c KeeperFault caused sink same = same
leaves_same words seen c KeeperRefused caused sink same = same
leaves_same words seen c (MomentTooLarge moment) caused sink same = same
leaves_same words seen c (SourceFault name) caused sink same = same
leaves_same words seen c (SourceShrank name kept found) caused sink same = same
leaves_same words seen c NumbersSpent caused sink same = same
leaves_same words seen c SinkFault caused sink same = inl (sink caused, same)
leaves_same words seen c TicksSpent caused sink same = absurd caused
leaves_same words seen c (QueryRefused place kind) caused sink same = same
leaves_same words seen c OutOfMemory caused sink same = same

-- a question that has no answer, by one of these causes
pub stopped : (words : QueryWords) (seen : Observed) (c : Causes) (s r : Status) → r ≡ s → Within c (causes_of words seen) → (c.sink → seen.status_failed) → IsCaused c s
    → (seen.sink_tells → seen.results_after ≡ seen.results_before) → (seen.keeper_tells → seen.kept_after ≡ seen.kept_before) → IsQuery words seen r
stopped words seen c s r is more sink caused same kept =
    subst (IsQuery words seen) (sym is) (record {
      leaves = leaves_same words seen c s caused sink same;
      cause = λ refusal. caused_by_more c (causes_of words seen) more s caused;
      kept = kept;
    })

-- by the text
pub refused_text : (words : QueryWords) (seen : Observed) (s r : Status) → r ≡ s → IsCaused (record no_causes { query = IsRefusedAt words.text }) s
    → (seen.sink_tells → seen.results_after ≡ seen.results_before) → (seen.keeper_tells → seen.kept_after ≡ seen.kept_before) → IsQuery words seen r
refused_text words seen s r is caused same kept =
    stopped words seen (record no_causes { query = IsRefusedAt words.text }) s r is (record {
      query = λ place kind x. x;
      files = λ x. absurd x;
      refused = λ kind key x. absurd x;
      keeper = λ x. absurd x;
      unfit = λ x. absurd x;
      moment = λ moment x. absurd x;
      source = λ name x. absurd x;
      shrank = λ name kept found x. absurd x;
      numbers = λ x. absurd x;
      sink = λ x. absurd x;
    }) (λ x. absurd x) caused same kept

-- a refusal of a text is one of the same text
pub of_text : (text same : List ℕ) (s : Status) → text ≡ same → IsCaused (record no_causes { query = IsRefusedAt text }) s → IsCaused (record no_causes { query = IsRefusedAt same }) s
of_text text same s is caused = subst (λ (t : List ℕ). IsCaused (record no_causes { query = IsRefusedAt t }) s) is caused

-- by the configuration
pub refused_config : (words : QueryWords) (seen : Observed) (s r : Status) → r ≡ s → text_fault words.text ≡ None
    → IsCaused (record no_causes { files = seen.files_failed; refused = IsRefusedIn seen.files_tell seen.file words.config }) s
    → (seen.sink_tells → seen.results_after ≡ seen.results_before) → (seen.keeper_tells → seen.kept_after ≡ seen.kept_before) → IsQuery words seen r
refused_config words seen s r is accepted caused same kept =
    stopped words seen (record no_causes { files = seen.files_failed; refused = IsRefusedIn seen.files_tell seen.file words.config }) s r is (record {
      query = λ place kind x. absurd x;
      files = λ x. (accepted, x);
      refused = λ kind key x. (accepted, x);
      keeper = λ x. absurd x;
      unfit = λ x. absurd x;
      moment = λ moment x. absurd x;
      source = λ name x. absurd x;
      shrank = λ name kept found x. absurd x;
      numbers = λ x. absurd x;
      sink = λ x. absurd x;
    }) (λ x. absurd x) caused same kept

pub no_memory : (words : QueryWords) (seen : Observed) (r : Status) → r ≡ OutOfMemory → (seen.sink_tells → seen.results_after ≡ seen.results_before)
    → (seen.keeper_tells → seen.kept_after ≡ seen.kept_before) → IsQuery words seen r
no_memory words seen r is same kept = subst (IsQuery words seen) (sym is) (record { leaves = same; cause = λ refusal. tt; kept = kept })

-- the lines of packs that are left out, or of sources of which lines were skipped, could not be written
pub untold : (words : QueryWords) (seen : Observed) (r : Status) → r ≡ SinkFault → IsPosed words seen → seen.status_failed → (seen.sink_tells → seen.results_after ≡ seen.results_before)
    → (seen.keeper_tells → seen.kept_after ≡ seen.kept_before) → IsQuery words seen r
untold words seen r is posed failed same kept =
    subst (IsQuery words seen) (sym is) (record { leaves = inl (failed, same); cause = λ refusal. (posed, inr failed); kept = kept })

-- behind the question, by anything but a sink
pub unanswered : (words : QueryWords) (seen : Observed) (s r : Status) → r ≡ s → IsCaused (record (causes_of words seen) { sink = ⊥ }) s
    → (seen.sink_tells → seen.results_after ≡ seen.results_before) → (seen.keeper_tells → seen.kept_after ≡ seen.kept_before) → IsQuery words seen r
unanswered words seen s r is caused same kept =
    stopped words seen (record (causes_of words seen) { sink = ⊥ }) s r is (record {
      query = λ place kind x. x;
      files = λ x. x;
      refused = λ kind key x. x;
      keeper = λ x. x;
      unfit = λ x. x;
      moment = λ moment x. x;
      source = λ name x. x;
      shrank = λ name kept found x. x;
      numbers = λ x. x;
      sink = λ x. absurd x;
    }) (λ x. absurd x) caused same kept

-- a text that has a query is accepted, and its rows are shown under the query's names
pub accepted_by : (text : List ℕ) (query : QueryTree) → query_in text ≡ Some query → is_accepted text ≡ true
unfolding is_accepted
accepted_by text query is = rw is refl

pub same_lines : (text : List ℕ) (query : QueryTree) (rows : List (List Value)) → query_in text ≡ Some query → row_lines (result_names query) rows ≡ row_lines (names_of text) rows
unfolding names_of
same_lines text query rows is = rw is refl

-- a question whose text is accepted, and whose configuration was read, is posed
abbrev pub posed_by : (words : QueryWords) (seen : Observed) (text : List ℕ) (paths : List Category) (notes : List ℕ) → text ≡ words.text → text_fault text ≡ None → AreWatched seen.files_tell seen.file words.config paths notes → IsPosed words seen
posed_by words seen text paths notes is accepted are = record { accepted = ap text_fault (sym is) ∙ accepted; watched = record { paths = paths; notes = notes; are = are } }

-- what a session is given is what the question is over
pub given_for : {S : Type 0} (left : S → List ℕ) (words : QueryWords) (seen : Observed) (posed : IsPosed words seen) (names : List SourceName) (objects : List S) (given : Given) → names ≡ words.sources
    → seen.all_bytes ≡ map left objects → IsQueryGiven words seen posed given → asking.IsGivenFrom left names objects posed.watched.paths words.records given
given_for left words seen posed names objects given is bytes g = record {
  sources_are = g.sources ∙ sym (ap (λ (ns : List SourceName). sources_of left ns objects) is ∙ sources_are left words.sources objects ∙ ap (sources_named words.sources) (sym bytes));
  paths_are = g.paths;
  records_are = g.records;
}

-- the rows of a question mean what the words ask for
pub meant_for : (words : QueryWords) (tells : Type 0) (kept : List Entry) (names : List SourceName) (text : List ℕ) (moment : ℕ) (rows : List (List Value)) → names ≡ words.sources → text ≡ words.text → asking.AnswersSomeContinuation tells kept names text moment rows
    → asking.AnswersSomeContinuation tells kept words.sources words.text moment rows
meant_for words tells kept names text moment rows named is meant =
    subst (λ (text : List ℕ). asking.AnswersSomeContinuation tells kept words.sources text moment rows) is (subst (λ (names : List SourceName). asking.AnswersSomeContinuation tells kept names text moment rows) named meant)

-- what its sources skipped is told of the sources that the words name
pub skips_for : (words : QueryWords) (tells : Type 0) (paths : List Category) (taken : List Taken) (names : List SourceName) (given_bytes all_bytes : List (List ℕ)) (is_end : Bool) (lines : List ℕ) → names ≡ words.sources
    → given_bytes ≡ all_bytes → TellsSkipped tells paths taken names all_bytes is_end lines → TellsSkipped tells paths taken words.sources given_bytes is_end lines
skips_for words tells paths taken names given_bytes all_bytes is_end lines named bytes skips =
    subst (λ (bytes : List (List ℕ)). TellsSkipped tells paths taken words.sources bytes is_end lines) (sym bytes)
    (subst (λ (names : List SourceName). TellsSkipped tells paths taken names all_bytes is_end lines) named skips)

-- the question was answered, and what was then written
module _ (words : QueryWords) (seen : Observed) (posed : IsPosed words seen) (moment : ℕ) (read : seen.reads moment) (early : moment ≤ LAST_MOMENT) (asked : Asked)
    (meant : asking.AnswersSomeContinuation seen.keeper_tells seen.kept_before words.sources words.text moment asked.rows)
    (taken : List Taken) (taken_is : seen.keeper_tells → taken ≡ (summary seen.kept_before).taken) (fit : seen.keeper_tells → Fits (summary seen.kept_before)) (skips : TellsSkipped seen.source_tells posed.watched.paths taken words.sources seen.all_bytes asked.is_end asked.skipped)
    (answer : seen.keeper_tells → seen.source_tells → Legal seen.kept_before → (given : Given) → IsQueryGiven words seen posed given → asking.IsAnswer given seen.kept_before words.text words.ticks moment asked)
    (lines : List ℕ) (same : lines ≡ lines_in words asked) (kept : seen.keeper_tells → seen.kept_after ≡ seen.kept_before) where
  abbrev has : (is_end : Bool) → asked.is_end ≡ is_end → HasAnswer words seen is_end
  has is_end end_is = record { posed = posed; moment = moment; read = read; early = early; asked = asked; end_is = end_is; meant = meant; taken = taken; taken_is = taken_is; fit = fit; skips = skips; answer = answer }

  leaves_written : (s : Status) → Writes seen.sink_tells asked.is_end seen.results_before seen.results_after lines seen.results_failed s
      → (IsDoneStatus s → seen.sink_tells → seen.status_after ≡ seen.status_before ++ (posed.watched.notes ++ asked.skipped)) → QueryLeaves words seen s
  leaves_written Done writes quiet =
      (has true writes.0, λ tells. (writes.1 tells ∙ ap (λ (ls : List ℕ). seen.results_before ++ ls) same, quiet tt tells))
  leaves_written Usage writes quiet = absurd writes
  leaves_written FilesFault writes quiet = absurd writes
  leaves_written (ConfigRefused kind key) writes quiet = absurd writes
  leaves_written KeeperFault writes quiet = absurd writes
  leaves_written KeeperRefused writes quiet = absurd writes
  leaves_written (MomentTooLarge moment) writes quiet = absurd writes
  leaves_written (SourceFault name) writes quiet = absurd writes
  leaves_written (SourceShrank name kept found) writes quiet = absurd writes
  leaves_written NumbersSpent writes quiet = absurd writes
  leaves_written SinkFault writes quiet =
      inr (has true writes.0, writes.1, λ tells. let front = writes.2 tells in (front.0, front.1 ∙ ap (λ (ls : List ℕ). seen.results_before ++ take front.0 ls) same))
  leaves_written TicksSpent writes quiet = (has false writes.0, writes.1)
  leaves_written (QueryRefused place kind) writes quiet = absurd writes
  leaves_written OutOfMemory writes quiet = writes

  caused_written : (s : Status) → Writes seen.sink_tells asked.is_end seen.results_before seen.results_after lines seen.results_failed s → IsRefusal s → IsCaused (causes_of words seen) s
  caused_written Done writes refusal = absurd refusal
  caused_written Usage writes refusal = absurd refusal
  caused_written FilesFault writes refusal = absurd writes
  caused_written (ConfigRefused kind key) writes refusal = absurd writes
  caused_written KeeperFault writes refusal = absurd writes
  caused_written KeeperRefused writes refusal = absurd writes
  caused_written (MomentTooLarge moment) writes refusal = absurd writes
  caused_written (SourceFault name) writes refusal = absurd writes
  caused_written (SourceShrank name kept found) writes refusal = absurd writes
  caused_written NumbersSpent writes refusal = absurd writes
  caused_written SinkFault writes refusal = (posed, inl (fit, writes.1))
  caused_written TicksSpent writes refusal = absurd refusal
  caused_written (QueryRefused place kind) writes refusal = absurd writes
  caused_written OutOfMemory writes refusal = tt

  pub answered : (s : Status) → Writes seen.sink_tells asked.is_end seen.results_before seen.results_after lines seen.results_failed s
      → (IsDoneStatus s → seen.sink_tells → seen.status_after ≡ seen.status_before ++ (posed.watched.notes ++ asked.skipped)) → IsQuery words seen s
  answered s writes quiet = record { leaves = leaves_written s writes quiet; cause = caused_written s writes; kept = kept }

  -- what may stand before the line of its status
  pub answered_may : (s : Status) → EndsShort s → Writes seen.sink_tells asked.is_end seen.results_before seen.results_after lines seen.results_failed s → MayQueryTell words seen s (posed.watched.notes ++ asked.skipped)
  answered_may Done short writes = absurd short
  answered_may Usage short writes = absurd short
  answered_may FilesFault short writes = absurd writes
  answered_may (ConfigRefused kind key) short writes = absurd writes
  answered_may KeeperFault short writes = absurd writes
  answered_may KeeperRefused short writes = absurd writes
  answered_may (MomentTooLarge moment) short writes = absurd writes
  answered_may (SourceFault name) short writes = absurd writes
  answered_may (SourceShrank name kept found) short writes = absurd writes
  answered_may NumbersSpent short writes = absurd writes
  answered_may SinkFault short writes = inr (true, (has true writes.0, refl))
  answered_may TicksSpent short writes = (has false writes.0, refl)
  answered_may (QueryRefused place kind) short writes = absurd writes
  answered_may OutOfMemory short writes = inr (inr (asked.is_end, (has asked.is_end refl, refl)))

  -- the lines of skipped lines could not be written
  pub unskipped_may : MayQueryTell words seen SinkFault (posed.watched.notes ++ asked.skipped)
  unskipped_may = inr (asked.is_end, (has asked.is_end refl, refl))

-- by the text
pub text_may : (words : QueryWords) (seen : Observed) (Q : ℕ → List ℕ → Type 0) (s : Status) → IsCaused (record no_causes { query = Q }) s → MayQueryTell words seen s []
text_may words seen Q Done caused = absurd caused
text_may words seen Q Usage caused = absurd caused
text_may words seen Q FilesFault caused = absurd caused
text_may words seen Q (ConfigRefused kind key) caused = absurd caused
text_may words seen Q KeeperFault caused = absurd caused
text_may words seen Q KeeperRefused caused = absurd caused
text_may words seen Q (MomentTooLarge moment) caused = absurd caused
text_may words seen Q (SourceFault name) caused = absurd caused
text_may words seen Q (SourceShrank name kept found) caused = absurd caused
text_may words seen Q NumbersSpent caused = absurd caused
text_may words seen Q SinkFault caused = absurd caused
text_may words seen Q TicksSpent caused = absurd caused
text_may words seen Q (QueryRefused place kind) caused = refl
text_may words seen Q OutOfMemory caused = inl refl

-- by the configuration
pub config_may : (words : QueryWords) (seen : Observed) (R : List ℕ → List ℕ → Type 0) (s : Status) → IsCaused (record no_causes { refused = R }) s → MayQueryTell words seen s []
config_may words seen R Done caused = absurd caused
config_may words seen R Usage caused = absurd caused
config_may words seen R FilesFault caused = absurd caused
config_may words seen R (ConfigRefused kind key) caused = refl
config_may words seen R KeeperFault caused = absurd caused
config_may words seen R KeeperRefused caused = absurd caused
config_may words seen R (MomentTooLarge moment) caused = absurd caused
config_may words seen R (SourceFault name) caused = absurd caused
config_may words seen R (SourceShrank name kept found) caused = absurd caused
config_may words seen R NumbersSpent caused = absurd caused
config_may words seen R SinkFault caused = absurd caused
config_may words seen R TicksSpent caused = absurd caused
config_may words seen R (QueryRefused place kind) caused = absurd caused
config_may words seen R OutOfMemory caused = inl refl

-- behind the question
pub ended_may : (words : QueryWords) (seen : Observed) (sources : List SourceName) (e : AskError) (s : Status) (front : List ℕ) → IsAnswerTo sources (ended_by e) s → ArePosed words seen front → MayQueryTell words seen s front
ended_may words seen sources ask.KeeperFault s front is posed = subst (λ (s : Status). MayQueryTell words seen s front) (sym is) posed
ended_may words seen sources ask.KeeperRefused s front is posed = subst (λ (s : Status). MayQueryTell words seen s front) (sym is) posed
ended_may words seen sources (ask.MomentTooLarge moment) s front is posed = subst (λ (s : Status). MayQueryTell words seen s front) (sym is) posed
ended_may words seen sources (ask.SourceFault place) s front (inl is) posed = subst (λ (s : Status). MayQueryTell words seen s front) (sym is) (inr (inl posed))
ended_may words seen sources (ask.SourceFault place) s front (inr (name, named, is)) posed = subst (λ (s : Status). MayQueryTell words seen s front) (sym is) posed
ended_may words seen sources (ask.SourceShrank place kept found) s front (inl is) posed = subst (λ (s : Status). MayQueryTell words seen s front) (sym is) (inr (inl posed))
ended_may words seen sources (ask.SourceShrank place kept found) s front (inr (name, named, is)) posed = subst (λ (s : Status). MayQueryTell words seen s front) (sym is) posed
ended_may words seen sources ask.NumbersSpent s front is posed = subst (λ (s : Status). MayQueryTell words seen s front) (sym is) posed
ended_may words seen sources ask.NoMemory s front is posed = subst (λ (s : Status). MayQueryTell words seen s front) (sym is) (inr (inl posed))

-- a question ends as a session does, where it is for the same reason
pub as_keeper : (e : AskError) → ended_by e ≡ running.KeeperFault → e ≡ ask.KeeperFault
as_keeper ask.KeeperFault is = refl
as_keeper ask.KeeperRefused is = absurd cc
as_keeper (ask.MomentTooLarge moment) is = absurd cc
as_keeper (ask.SourceFault place) is = absurd cc
as_keeper (ask.SourceShrank place kept found) is = absurd cc
as_keeper ask.NumbersSpent is = absurd cc
as_keeper ask.NoMemory is = absurd cc

pub as_refused : (e : AskError) → ended_by e ≡ running.KeeperRefused → e ≡ ask.KeeperRefused
as_refused ask.KeeperFault is = absurd cc
as_refused ask.KeeperRefused is = refl
as_refused (ask.MomentTooLarge moment) is = absurd cc
as_refused (ask.SourceFault place) is = absurd cc
as_refused (ask.SourceShrank place kept found) is = absurd cc
as_refused ask.NumbersSpent is = absurd cc
as_refused ask.NoMemory is = absurd cc

pub as_late : (e : AskError) (at : ℕ) → ended_by e ≡ running.MomentTooLarge at → e ≡ ask.MomentTooLarge at
as_late ask.KeeperFault at is = absurd cc
as_late ask.KeeperRefused at is = absurd cc
as_late (ask.MomentTooLarge moment) at is = cc
as_late (ask.SourceFault place) at is = absurd cc
as_late (ask.SourceShrank place kept found) at is = absurd cc
as_late ask.NumbersSpent at is = absurd cc
as_late ask.NoMemory at is = absurd cc

pub as_fault : (e : AskError) (at : ℕ) → ended_by e ≡ running.SourceFault at → e ≡ ask.SourceFault at
as_fault ask.KeeperFault at is = absurd cc
as_fault ask.KeeperRefused at is = absurd cc
as_fault (ask.MomentTooLarge moment) at is = absurd cc
as_fault (ask.SourceFault place) at is = cc
as_fault (ask.SourceShrank place kept found) at is = absurd cc
as_fault ask.NumbersSpent at is = absurd cc
as_fault ask.NoMemory at is = absurd cc

pub as_shrank : (e : AskError) (at had was : ℕ) → ended_by e ≡ running.SourceShrank at had was → e ≡ ask.SourceShrank at had was
as_shrank ask.KeeperFault at had was is = absurd cc
as_shrank ask.KeeperRefused at had was is = absurd cc
as_shrank (ask.MomentTooLarge moment) at had was is = absurd cc
as_shrank (ask.SourceFault place) at had was is = absurd cc
as_shrank (ask.SourceShrank place kept found) at had was is = cc
as_shrank ask.NumbersSpent at had was is = absurd cc
as_shrank ask.NoMemory at had was is = absurd cc

pub as_spent : (e : AskError) → ended_by e ≡ running.NumbersSpent → e ≡ ask.NumbersSpent
as_spent ask.KeeperFault is = absurd cc
as_spent ask.KeeperRefused is = absurd cc
as_spent (ask.MomentTooLarge moment) is = absurd cc
as_spent (ask.SourceFault place) is = absurd cc
as_spent (ask.SourceShrank place kept found) is = absurd cc
as_spent ask.NumbersSpent is = refl
as_spent ask.NoMemory is = absurd cc

pub no_sink : (e : AskError) → ended_by e ≡ running.SinkFault → ⊥
no_sink ask.KeeperFault is = cc
no_sink ask.KeeperRefused is = cc
no_sink (ask.MomentTooLarge moment) is = cc
no_sink (ask.SourceFault place) is = cc
no_sink (ask.SourceShrank place kept found) is = cc
no_sink ask.NumbersSpent is = cc
no_sink ask.NoMemory is = cc
