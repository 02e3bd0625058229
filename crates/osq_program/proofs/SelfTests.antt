-- From what the parts of `selftest` ensure to what it does.
use Rattle.std.proofs.Common.{◌≡◌, ◌≤◌, ◌<◌, ◌+◌, ◌-◌, ◌^◌, ◌++◌, ℕ, arith, List, [], ◌∷◌, length, codes, min, take, Bool, true, false, Some, refl, sym, ap, ◌∙◌, subst, inl, inr}
use Rattle.std.specs.Prelude.{◌⊎◌, IfOk, Result, Ok, Err}
use Rattle.std.proofs.lemmas.Option.{same_Some}
use Rattle.osq_value.specs.declared.source.SourceKind.TheVariants.{Changes}
use Rattle.osq_outside.specs.declared.clock.StepClock.{StepClock}
use Rattle.osq_outside.specs.declared.files.NamedFile.{NamedFile}
use Rattle.osq_outside.specs.NamedFile.{text_at}
use Rattle.batch_keeper.specs.Calling.{Calls}
use Rattle.generated_changes.specs.Generated.{lines_of}
use Rattle.kept_report.specs.Counting.{numbers_in, numbers_line}
use Rattle.program_words.specs.declared.command.GenerateWords.{GenerateWords}
use Rattle.program_words.specs.declared.command.ReplayWords.{ReplayWords}
use Rattle.program_words.specs.Bounds.{SessionBounds}
use Rattle.program_words.specs.Commands.{forwards}
use Rattle.session_model.specs.Given.{Given}
use Rattle.session_model.specs.Orders.{in_turn}
use Rattle.replay_rounds.specs.declared.running.Ended.{Ended}
use Rattle.forward_rounds.specs.Forwarding.{View}
use Rattle.replay_rounds.specs.Called.{HasSealed, HasStopped}
use Rattle.replay_rounds.specs.Fixed.{Linked, Run}
use Rattle.replay_rounds.specs.Linking.{readings_of}
use Rattle.replay_rounds.specs.Running.{HasRun, IsKept, ReadsAll, run_by}
use Rattle.entry_model.specs.declared.entry.Entry.{Entry}
use Rattle.osq_program.specs.declared.status.Status.{Status}
use Rattle.osq_program.specs.declared.status.Status.TheVariants.{Ok as Done, SinkFault, OutOfMemory}
use Rattle.osq_program.specs.Answers.{IsDoneStatus}
use Rattle.osq_program.specs.Observed.{Observed}
use Rattle.osq_program.specs.Replaying.{IsReplay, IsReplayGiven, run_in}
use Rattle.osq_program.specs.Report.{IsRefusedAs}
use Rattle.osq_program.specs.SelfTesting.{HasGrownOver, HasRunOver, HasTested, IsSelfGiven, IsSelfTest, config_path, document, no_view, readings_from, self_fixed, self_key, self_link, self_run, self_words, ticks_for}
use Rattle.osq_program.specs.Setups.{host_in, sources_named}
use Rattle.osq_program.proofs.Toldings.{as_plain}

-- the same run, told by another property of the readings
pub read_as : (ran : Run) (q : List ℕ → Type 0) (ticks : ℕ) (kept : List Entry) (written : List ℕ) (linked : View) (ended : Ended) → ((readings : List ℕ) → ran.has_read readings → q readings) → HasRun ran ticks kept written linked ended → HasRun (record ran { has_read = q }) ticks kept written linked ended
read_as ran q ticks kept written linked ended more run =
    record {
      beats = run.beats;
      entries = run.entries;
      read = more (readings_of run.beats) run.read;
      count = run.count;
      grows = run.grows;
      forwarded = run.forwarded;
      told = run.told;
      covered = run.covered;
      answered = run.answered;
      settled = run.settled;
      events = run.events;
      batches = run.batches;
      acknowledged = run.acknowledged;
      present = run.present;
      whole = run.whole;
      more = run.more;
    }

-- the configuration is the one file
pub self_file : (files : List NamedFile) (path text : List ℕ) → files ≡ (record { path = path; text = text }) ∷ [] → path ≡ config_path → text ≡ document → text_at files config_path ≡ Some document
self_file files path text is path_is text_is =
    ap (λ (fs : List NamedFile). text_at fs config_path) is ∙ ap (λ (p : List ℕ). text_at ((record { path = p; text = text }) ∷ []) config_path) path_is ∙ ap (λ (t : List ℕ). Some t) text_is

-- what the session was given
pub self_given : (lines : List ℕ) (count start : ℕ) (words : ReplayWords) (seen : Observed) (given : Given) → words ≡ self_words count start → seen.files_tell → seen.file config_path ≡ Some document → seen.all_bytes ≡ lines ∷ [] → IsReplayGiven words seen given → IsSelfGiven lines count start given
self_given lines count start words seen given is tells file bytes found =
    let path : words.config ≡ config_path = ap (λ (w : ReplayWords). w.config) is in
    record {
      notes = found.notes;
      configured = found.configured.holds;
      document_is = same_Some _ _ (sym (found.configured.found tells) ∙ ap seen.file path ∙ file);
      host = found.host ∙ ap host_in is;
      sources = found.sources ∙ ap (λ (w : ReplayWords). sources_named w.sources seen.all_bytes) is ∙ ap (λ (all : List (List ℕ)). sources_named ((record { kind = Changes; name = codes "generated" }) ∷ []) all) bytes;
      records = found.records ∙ ap (λ (w : ReplayWords). w.records) is;
    }

pub self_count : (count start : ℕ) (words : ReplayWords) → words ≡ self_words count start → length words.sources ≡ 1
self_count count start words is = ap (λ (w : ReplayWords). length w.sources) is

pub self_bounded : (count start : ℕ) (words : ReplayWords) → count ≤ 1000000 → start < 2 ^ 63 → words ≡ self_words count start → SessionBounds words
self_bounded count start words few early is =
    subst SessionBounds (sym is) (
      record {
        clock = record { start_in = early; step_in = omega arith };
        some_ticks = omega arith;
        ticks_in = omega arith;
        some_records = omega arith;
        records_in = omega arith;
        sources_in = record { few = omega arith; own_paths = λ i j d before within. absurd (omega arith) };
      },
      record { some_bytes = omega arith; bytes_in = omega arith },
    )

abbrev pub steps : StepClock → ℕ → StepClock → Type 0
steps before moment after = (moment ≡ before.next) × (after ≡ record before { next = min (before.next + before.step) (2 ^ 64 - 1) })

-- the readings of its clock
pub readings_are : (clock : StepClock) (readings : List ℕ) (after : StepClock) → clock.step ≡ 60 → ReadsAll steps clock readings after → readings ≡ readings_from clock.next (length readings)
readings_are clock [] after step reads = refl
readings_are clock (reading ∷ rest) after step (between, (first, next), others) =
    let still : between.step ≡ 60 = ap (λ (c : StepClock). c.step) next ∙ step in
    let moved : between.next ≡ min (clock.next + 60) (2 ^ 64 - 1) = ap (λ (c : StepClock). c.next) next ∙ ap (λ (s : ℕ). min (clock.next + s) (2 ^ 64 - 1)) step in
    ap (λ (r : ℕ). r ∷ rest) first ∙ ap (λ (rs : List ℕ). clock.next ∷ rs) (readings_are between rest after still others ∙ ap (λ (n : ℕ). readings_from n (length rest)) moved)

abbrev pub view_with : List (List ℕ) → List (List ℕ) → ℕ → View
view_with sent waiting faults = record { sent = sent; waiting = waiting; faults = faults }

-- the run of it, whatever its link
abbrev pub linked_run : Given → List Entry → (clock read : StepClock) → Linked → Run
linked_run given kept clock read link = run_by (record (self_fixed given kept) { link = link }) steps clock read

-- from one list to another a session ran over these lines
pub ran_over : (lines : List ℕ) (count start : ℕ) (before kept after : List Entry) (words : ReplayWords) (clock read : StepClock) (link : Linked) (linked : View) (given : Given) (ended : Ended) → IsSelfGiven lines count start given → ended.is_end ≡ true → words ≡ self_words count start
    → kept ≡ before → clock ≡ record { next = start; step = 60 } → link ≡ self_link → HasRun (linked_run given kept clock read link) words.ticks after [] linked ended → HasRunOver lines count start before after
ran_over lines count start before kept after words clock read link linked given ended is whole words_is kept_is clock_is link_is run =
    let quiet : HasRun (linked_run given kept clock read self_link) words.ticks after [] linked ended =
    subst (λ (l : Linked). HasRun (linked_run given kept clock read l) words.ticks after [] linked ended) link_is run
    in
    let told : HasRun (self_run given start kept) words.ticks after [] linked ended =
    read_as (run_by (self_fixed given kept) steps clock read) (self_run given start kept).has_read words.ticks after [] linked ended (λ readings reads. readings_are clock readings read (ap (λ (c : StepClock). c.step) clock_is) reads ∙ ap (λ (c : StepClock). readings_from c.next (length readings)) clock_is) quiet
    in
    let ticked : HasRun (self_run given start kept) (ticks_for count) after [] linked ended = subst (λ (t : ℕ). HasRun (self_run given start kept) t after [] linked ended) (ap (λ (w : ReplayWords). w.ticks) words_is) told in
    record {
      given = given;
      is = is;
      ended = ended;
      linked = linked;
      whole = whole;
      run = subst (λ (k : List Entry). HasRun (self_run given start k) (ticks_for count) after [] linked ended) kept_is ticked;
    }

-- the same of what it keeps, however it ends
kept_as : (ran : Run) (q : List ℕ → Type 0) (kept : List Entry) → ((readings : List ℕ) → ran.has_read readings → q readings) → IsKept ran kept → IsKept (record ran { has_read = q }) kept
kept_as ran q kept more grown =
    record { beats = grown.beats; more = grown.more; entries = grown.entries; read = more (readings_of grown.beats ++ grown.more) grown.read; few = grown.few; grows = grown.grows }

pub kept_over : (lines : List ℕ) (count start : ℕ) (before kept after : List Entry) (clock read : StepClock) (link : Linked) (given : Given) → IsSelfGiven lines count start given
    → kept ≡ before → clock ≡ record { next = start; step = 60 } → link ≡ self_link → IsKept (linked_run given kept clock read link) after → HasGrownOver lines count start before after
kept_over lines count start before kept after clock read link given is kept_is clock_is link_is grown =
    let quiet : IsKept (linked_run given kept clock read self_link) after =
    subst (λ (l : Linked). IsKept (linked_run given kept clock read l) after) link_is grown
    in
    let told : IsKept (self_run given start kept) after =
    kept_as (run_by (self_fixed given kept) steps clock read) (self_run given start kept).has_read after (λ readings reads. readings_are clock readings read (ap (λ (c : StepClock). c.step) clock_is) reads ∙ ap (λ (c : StepClock). readings_from c.next (length readings)) clock_is) quiet
    in
    inr (given, is, subst (λ (k : List Entry). IsKept (self_run given start k) after) kept_is told)

pub grown_over : (lines : List ℕ) (count start : ℕ) (before : List Entry) (words : ReplayWords) (seen : Observed) (status : Status) → IsReplay in_turn words seen status → seen.keeper_tells → seen.kept_before ≡ before
    → ((given : Given) → IsReplayGiven words seen given → IsKept (run_in in_turn words seen given) seen.kept_after → HasGrownOver lines count start before seen.kept_after) → HasGrownOver lines count start before seen.kept_after
grown_over lines count start before words seen status does tells kept_is over = from (does.kept tells)
  where
    from : ((seen.kept_after ≡ seen.kept_before) × seen.has_read []) ⊎ ((given : Given) × IsReplayGiven words seen given × IsKept (run_in in_turn words seen given) seen.kept_after) → HasGrownOver lines count start before seen.kept_after
    from (inl (same, unread)) = inl (same ∙ kept_is)
    from (inr (given, is, kept)) = over given is kept

-- the calls of its session on the keeper
pub sealed_over : (count start : ℕ) (words : ReplayWords) (before own after : Calls) (list kept now : List Entry) → words ≡ self_words count start → own ≡ before → kept ≡ list → HasSealed (Unit {0}) own after kept now words.ticks → HasSealed (Unit {0}) before after list now (ticks_for count)
sealed_over count start words before own after list kept now is calls_are kept_is sealed =
    subst (λ (k : List Entry). HasSealed (Unit {0}) before after k now (ticks_for count)) kept_is
    (subst (λ (calls : Calls). HasSealed (Unit {0}) calls after kept now (ticks_for count)) calls_are
    (subst (λ (w : ReplayWords). HasSealed (Unit {0}) own after kept now w.ticks) is sealed))

pub stopped_over : (count start : ℕ) (words : ReplayWords) (before own after : Calls) (list kept now : List Entry) → words ≡ self_words count start → own ≡ before → kept ≡ list → HasStopped (Unit {0}) own after kept now words.ticks → HasStopped (Unit {0}) before after list now (ticks_for count)
stopped_over count start words before own after list kept now is calls_are kept_is stopped =
    subst (λ (k : List Entry). HasStopped (Unit {0}) before after k now (ticks_for count)) kept_is
    (subst (λ (calls : Calls). HasStopped (Unit {0}) calls after kept now (ticks_for count)) calls_are
    (subst (λ (w : ReplayWords). HasStopped (Unit {0}) own after kept now w.ticks) is stopped))

-- a link of which nothing is told yet
pub view_none : (sent waiting : List (List ℕ)) (faults : ℕ) → sent ≡ [] → waiting ≡ [] → faults ≡ 0 → view_with sent waiting faults ≡ no_view
view_none sent waiting faults unsent quiet whole =
    ap (λ (xs : List (List ℕ)). view_with xs waiting faults) unsent ∙ (ap (λ (xs : List (List ℕ)). view_with [] xs faults) quiet ∙ ap (λ (n : ℕ). view_with [] [] n) whole)

abbrev pub link_with : Bool → View → Linked
link_with forward view = record { forwards = forward; tells = Unit {0}; before = view }

-- the words of a self test name no link
pub self_linked : (count start : ℕ) (words : ReplayWords) (view : View) → words ≡ self_words count start → view ≡ no_view → link_with (forwards words) view ≡ self_link
self_linked count start words view is same =
    ap (λ (b : Bool). link_with b view) (ap forwards is) ∙ ap (λ (v : View). link_with false v) same

-- the line of the list that the session left
pub line_tested : {E : Type 0} (w : GenerateWords) (kept : List Entry) (result : Result (List ℕ) E) → HasRunOver (lines_of w.from w.count) w.count 1000 [] kept → IfOk result (λ line. line ≡ numbers_line (numbers_in self_key kept)) → IfOk result (HasTested w)
line_tested w kept (Ok line) ran is = record { kept = kept; ran = ran; are = is }
line_tested w kept (Err e) ran is = is

-- of a session over the generated lines, behind a list that was empty
pub session_tested : {E : Type 0} (w : GenerateWords) (lines : List ℕ) (before kept : List Entry) (status : Status) (result : Result (List ℕ) E) → (IsDoneStatus status → HasRunOver lines w.count 1000 before kept) → status ≡ Done
    → lines ≡ lines_of w.from w.count → before ≡ [] → IfOk result (λ line. line ≡ numbers_line (numbers_in self_key kept)) → IfOk result (HasTested w)
session_tested w lines before kept status result ran done lines_are empty is =
    line_tested w kept result
    (subst (λ (b : List Entry). HasRunOver (lines_of w.from w.count) w.count 1000 b kept) empty
    (subst (λ (ls : List ℕ). HasRunOver ls w.count 1000 before kept) lines_are (ran (subst IsDoneStatus (sym done) tt)))) is

pub tested_whole : (w : GenerateWords) (seen : Observed) (line : List ℕ) → HasTested w line → (seen.sink_tells → seen.results_after ≡ seen.results_before ++ line) → (seen.sink_tells → seen.status_after ≡ seen.status_before) → IsSelfTest w seen Done
tested_whole w seen line has all quiet = record { leaves = (line, has, all); quiet = λ done. quiet; unspent = λ spent. spent; cause = λ refusal. absurd refusal }

pub tested_partly : (w : GenerateWords) (seen : Observed) (line : List ℕ) → HasTested w line → (seen.sink_tells → (count : ℕ) × (seen.results_after ≡ seen.results_before ++ take count line)) → seen.results_failed → (r : Status) → IsRefusedAs SinkFault r → IsSelfTest w seen r
tested_partly w seen line has front failed r is =
    subst (IsSelfTest w seen) (sym (as_plain SinkFault r (λ none. none) is)) (record { leaves = (line, has, front); quiet = λ done. absurd done; unspent = λ spent. spent; cause = λ refusal. failed })

pub untested : (w : GenerateWords) (seen : Observed) → (seen.sink_tells → seen.results_after ≡ seen.results_before) → (r : Status) → r ≡ OutOfMemory → IsSelfTest w seen r
untested w seen same r is =
    subst (IsSelfTest w seen) (sym is) (record { leaves = same; quiet = λ done. absurd done; unspent = λ spent. spent; cause = λ refusal. tt })
