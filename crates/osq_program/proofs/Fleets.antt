-- From what the parts of `fleet` ensure to what it does.
use Rattle.std.proofs.Common.{◌≡◌, ◌++◌, ◌∙◌, None, Some, inl, inr, ℕ, List, [], take, refl, sym, ap, subst}
use Rattle.std.specs.Prelude.{unwrap_or}
use Rattle.batch_frames.specs.declared.frame.Frame.{Frame}
use Rattle.collector_ledger.specs.Frames.{AreRecorded}
use Rattle.fleet_query.specs.Tables.{fleet_derived, fleet_view}
use Rattle.program_words.specs.declared.command.FleetWords.{FleetWords}
use Rattle.sql_meaning.specs.Meaning.{meaning_of}
use Rattle.sql_query.specs.declared.derived.Derived.{Derived}
use Rattle.sql_query.specs.Answers.{result_names}
use Rattle.sql_query.specs.Resolved.{QueryTree}
use Rattle.sql_texts.specs.TextFaults.{text_fault_with}
use Rattle.sql_texts.specs.Texts.{query_with_in}
use Rattle.osq_program.specs.declared.status.Status.{Status}
use Rattle.osq_program.specs.declared.status.Status.TheVariants.{Ok as Done, Usage, FilesFault, ConfigRefused, KeeperFault, KeeperRefused, MomentTooLarge, SourceFault, SourceShrank, NumbersSpent, SinkFault, TicksSpent, QueryRefused, OutOfMemory}
use Rattle.osq_program.specs.Answers.{Causes, IsCaused, no_causes}
use Rattle.osq_program.specs.Fleets.{AreOfHost, FleetLeaves, HasFleetAnswer, IsFleet, ShowsRows, causes_of, file_in}
use Rattle.osq_program.specs.Observed.{Observed}
use Rattle.osq_program.specs.Querying.{IsRefusedOver, row_lines}
use Rattle.osq_program.specs.Report.{IsRefusedAs, IsUnread}
use Rattle.osq_program.specs.Telling.{MayTellOfLedger}
use Rattle.osq_program.proofs.Replays.{not_done, not_spent}
use Rattle.osq_program.proofs.Toldings.{as_plain, as_refused}

-- what is read and refused over the tables that a call is given is so over those of the frames
pub shown_by : (frames : List Frame) (derived : List Derived) (text lines : List ℕ) (query : QueryTree) → derived ≡ fleet_derived frames → text_fault_with derived text ≡ None → query_with_in derived text ≡ Some query
    → lines ≡ row_lines (result_names query) (meaning_of query (fleet_view frames)) → ShowsRows frames text lines
shown_by frames derived text lines query is accepted read are = record {
  query = query;
  accepted = ap (λ (tables : List Derived). text_fault_with tables text) (sym is) ∙ accepted;
  read = ap (λ (tables : List Derived). query_with_in tables text) (sym is) ∙ read;
  are = are;
}

-- the text is refused over the tables of these frames
abbrev pub refusing : List Frame → List ℕ → Causes
refusing frames text = record no_causes { query = IsRefusedOver (fleet_derived frames) text }

pub refused_over : (frames : List Frame) (derived : List Derived) (text : List ℕ) (s : Status) → derived ≡ fleet_derived frames → IsCaused (record no_causes { query = IsRefusedOver derived text }) s → IsCaused (refusing frames text) s
refused_over frames derived text s is caused = subst (λ (tables : List Derived). IsCaused (record no_causes { query = IsRefusedOver tables text }) s) is caused

-- the frames, the path and the texts that a call is given are those of the words
of_host : (words : FleetWords) (seen : Observed) (frames : List Frame) (path host : List ℕ) → path ≡ words.ledger → host ≡ words.host
    → (seen.files_tell → AreRecorded (unwrap_or (seen.file path) []) host frames) → AreOfHost words seen frames
of_host words seen frames path host is named are tells =
    subst (λ (h : List ℕ). AreRecorded (file_in words seen) h frames) named (subst (λ (p : List ℕ). AreRecorded (unwrap_or (seen.file p) []) host frames) is (are tells))

pub has_answer : (words : FleetWords) (seen : Observed) (frames given : List Frame) (path host asked lines : List ℕ) → path ≡ words.ledger → host ≡ words.host
    → (seen.files_tell → AreRecorded (unwrap_or (seen.file path) []) host frames) → given ≡ frames → asked ≡ words.text → ShowsRows given asked lines → HasFleetAnswer words seen lines
has_answer words seen frames given path host asked lines is named recorded are is_text shows = record {
  frames = frames;
  are = of_host words seen frames path host is named recorded;
  shows = subst (λ (t : List ℕ). ShowsRows frames t lines) is_text (subst (λ (fs : List Frame). ShowsRows fs asked lines) are shows);
}

refusing_for : (frames given : List Frame) (text asked : List ℕ) (s : Status) → given ≡ frames → asked ≡ text → IsCaused (refusing given asked) s → IsCaused (refusing frames text) s
refusing_for frames given text asked s are is caused =
    subst (λ (t : List ℕ). IsCaused (refusing frames t) s) is (subst (λ (fs : List Frame). IsCaused (refusing fs asked) s) are caused)

module _ (words : FleetWords) (seen : Observed) where
  cause_more : (frames : List Frame) → AreOfHost words seen frames → (s : Status) → IsCaused (refusing frames words.text) s → IsCaused (causes_of words seen) s
  cause_more frames are Done caused = caused
  cause_more frames are Usage caused = caused
  cause_more frames are FilesFault caused = absurd caused
  cause_more frames are (ConfigRefused kind key) caused = caused
  cause_more frames are KeeperFault caused = caused
  cause_more frames are KeeperRefused caused = caused
  cause_more frames are (MomentTooLarge moment) caused = caused
  cause_more frames are (SourceFault name) caused = caused
  cause_more frames are (SourceShrank name kept found) caused = caused
  cause_more frames are NumbersSpent caused = caused
  cause_more frames are SinkFault caused = absurd caused
  cause_more frames are TicksSpent caused = caused
  cause_more frames are (QueryRefused place kind) caused = (frames, are, caused)
  cause_more frames are OutOfMemory caused = caused

  nothing_left : (frames : List Frame) (s : Status) → IsCaused (refusing frames words.text) s → (seen.sink_tells → seen.results_after ≡ seen.results_before) → FleetLeaves words seen s
  nothing_left frames Done caused same = absurd caused
  nothing_left frames Usage caused same = same
  nothing_left frames FilesFault caused same = same
  nothing_left frames (ConfigRefused kind key) caused same = same
  nothing_left frames KeeperFault caused same = same
  nothing_left frames KeeperRefused caused same = same
  nothing_left frames (MomentTooLarge moment) caused same = same
  nothing_left frames (SourceFault name) caused same = same
  nothing_left frames (SourceShrank name kept found) caused same = same
  nothing_left frames NumbersSpent caused same = same
  nothing_left frames SinkFault caused same = absurd caused
  nothing_left frames TicksSpent caused same = same
  nothing_left frames (QueryRefused place kind) caused same = same
  nothing_left frames OutOfMemory caused same = same

  module _ (same : seen.sink_tells → seen.results_after ≡ seen.results_before) (kept : seen.keeper_tells → seen.kept_after ≡ seen.kept_before) where
    refused_by : (frames : List Frame) → AreOfHost words seen frames → (s : Status) → IsCaused (refusing frames words.text) s → IsFleet words seen s
    refused_by frames are s caused = record {
      leaves = nothing_left frames s caused same;
      quiet = λ done. absurd (not_done (refusing frames words.text) s caused done);
      unspent = λ spent. not_spent (refusing frames words.text) s caused spent;
      cause = λ refusal. cause_more frames are s caused;
      kept = kept;
    }

    -- by the text
    pub unanswered : (frames given : List Frame) (path host asked : List ℕ) (s r : Status) → path ≡ words.ledger → host ≡ words.host → (seen.files_tell → AreRecorded (unwrap_or (seen.file path) []) host frames)
        → given ≡ frames → asked ≡ words.text → IsCaused (refusing given asked) s → IsRefusedAs s r → IsFleet words seen r
    unanswered frames given path host asked s r is_path named recorded same_frames is caused answer =
        let are : AreOfHost words seen frames = of_host words seen frames path host is_path named recorded in
        as_refused (IsFleet words seen) s r answer (refused_by frames are s (refusing_for frames given words.text asked s same_frames is caused)) (refused_by frames are OutOfMemory tt)

    -- by the file, or memory was wanting for it
    pub starved : (r : Status) → r ≡ OutOfMemory → IsFleet words seen r
    starved r is = subst (IsFleet words seen) (sym is) (record { leaves = same; quiet = λ done. absurd done; unspent = λ spent. spent; cause = λ refusal. tt; kept = kept })

    pub unread : (r : Status) → IsUnread r → seen.files_failed → IsFleet words seen r
    unread r (inl is) failed = subst (IsFleet words seen) (sym is) (record { leaves = same; quiet = λ done. absurd done; unspent = λ spent. spent; cause = λ refusal. failed; kept = kept })
    unread r (inr is) failed = starved r is

  -- the lines were written, or a front part of them
  pub answered_whole : (lines : List ℕ) → HasFleetAnswer words seen lines → (seen.sink_tells → seen.results_after ≡ seen.results_before ++ lines) → (seen.sink_tells → seen.status_after ≡ seen.status_before)
      → (seen.keeper_tells → seen.kept_after ≡ seen.kept_before) → IsFleet words seen Done
  answered_whole lines has all quiet kept = record { leaves = (lines, has, all); quiet = λ done. quiet; unspent = λ spent. spent; cause = λ refusal. absurd refusal; kept = kept }

  pub answered_partly : (lines : List ℕ) → HasFleetAnswer words seen lines → (seen.sink_tells → (count : ℕ) × (seen.results_after ≡ seen.results_before ++ take count lines)) → seen.results_failed
      → (seen.keeper_tells → seen.kept_after ≡ seen.kept_before) → (r : Status) → IsRefusedAs SinkFault r → IsFleet words seen r
  answered_partly lines has front failed kept r is =
      subst (IsFleet words seen) (sym (as_plain SinkFault r (λ none. none) is))
      (record { leaves = (lines, has, front); quiet = λ done. absurd done; unspent = λ spent. spent; cause = λ refusal. (lines, has, failed); kept = kept })

-- a text that is refused tells of no file
pub refused_may : (ledger : List ℕ) (frames : List Frame) (text : List ℕ) (s : Status) → IsCaused (refusing frames text) s → MayTellOfLedger ledger s []
refused_may ledger frames text Done caused = refl
refused_may ledger frames text Usage caused = refl
refused_may ledger frames text FilesFault caused = absurd caused
refused_may ledger frames text (ConfigRefused kind key) caused = refl
refused_may ledger frames text KeeperFault caused = refl
refused_may ledger frames text KeeperRefused caused = refl
refused_may ledger frames text (MomentTooLarge moment) caused = refl
refused_may ledger frames text (SourceFault name) caused = refl
refused_may ledger frames text (SourceShrank name kept found) caused = refl
refused_may ledger frames text NumbersSpent caused = refl
refused_may ledger frames text SinkFault caused = refl
refused_may ledger frames text TicksSpent caused = refl
refused_may ledger frames text (QueryRefused place kind) caused = refl
refused_may ledger frames text OutOfMemory caused = refl
