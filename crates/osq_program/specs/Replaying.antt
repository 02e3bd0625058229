-- What `replay` does, and `daemon`.
use Rattle.std.specs.Prelude.{◌≡◌, ◌⊎◌, ◌<◌, ℕ, Bool, true, false, List, [], ◌∷◌, ◌++◌}
use Rattle.osq_value.specs.declared.moment.TheConstants.{LAST_MOMENT}
use Rattle.config_files.specs.Configurations.{IsConfigured}
use Rattle.entry_model.specs.Fits.{Fits}
use Rattle.entry_model.specs.Summary.{summary}
use Rattle.program_words.specs.Commands.{forwards}
use Rattle.program_words.specs.declared.command.ReplayWords.{ReplayWords}
use Rattle.session_model.specs.Given.{Given}
use Rattle.session_model.specs.Orders.{Order}
use Rattle.replay_rounds.specs.declared.running.Ended.{Ended}
use Rattle.replay_rounds.specs.Fixed.{Fixed, Linked, Run}
use Rattle.replay_rounds.specs.Noting.{HasTold}
use Rattle.replay_rounds.specs.Running.{HasRun, IsKept, IsWritten}
use Rattle.replay_rounds.specs.Spent.{RanOutOfNumbers}
use Rattle.osq_program.specs.declared.status.Status.{Status}
use Rattle.osq_program.specs.declared.status.Status.TheVariants.{TicksSpent}
use Rattle.osq_program.specs.Answers.{Causes, IsCaused, IsDoneStatus, IsSpentStatus, IsRefusal, no_causes}
use Rattle.osq_program.specs.Checking.{IsRefusedFor}
use Rattle.osq_program.specs.Reasons.{HasFailed, HasShrunk, IsFit, IsUnfit}
use Rattle.osq_program.specs.Report.{final_line, refusal_line}
use Rattle.osq_program.specs.Setups.{host_in, sources_named}
use Rattle.osq_program.specs.Observed.{Observed, link_faults}

-- What a session is given: the configuration in the file that the words name, the host that they tell, and of each source all that its object
-- had to give. A line tells of each pack that is left out.
pub record IsReplayGiven (words : ReplayWords) (seen : Observed) (given : Given) : Type 0 where
  pub notes : List ℕ
  pub configured : IsConfigured seen.files_tell seen.file words.config given.config given.documents notes
  pub host : given.host ≡ host_in words
  pub sources : given.sources ≡ sources_named words.sources seen.all_bytes
  pub records : given.records ≡ words.records

-- the configuration was accepted
abbrev pub IsAccepted : ReplayWords → Observed → Type 0
IsAccepted words seen = (given : Given) × IsReplayGiven words seen given

-- the link of the session, which forwards where the words name one
abbrev pub linked : ReplayWords → Observed → Linked
linked words seen = record { forwards = forwards words; tells = seen.link_tells; before = seen.link_before }

-- what stays the same in the session, whose ticks are worked on in this order
abbrev pub fixed : Order → ReplayWords → Observed → Given → Fixed
fixed order words seen given =
    record {
      order = order;
      keeper_tells = seen.keeper_tells;
      sink_tells = seen.sink_tells;
      source_tells = seen.source_tells;
      given = given;
      start = seen.kept_before;
      written = seen.results_before;
      link = linked words seen;
    }

-- the run that this was
abbrev pub run_in : Order → ReplayWords → Observed → Given → Run
run_in order words seen given = record { fixed = fixed order words seen given; has_read = seen.has_read }

-- All its ticks were run, behind values that a session may go on from, and behind each it forwarded where it has a link: each source is then at its end, or
-- one of them had more.
pub record Ran (order : Order) (words : ReplayWords) (seen : Observed) (is_end : Bool) : Type 0 where
  pub given : Given
  pub is : IsReplayGiven words seen given
  pub ended : Ended
  pub end_is : ended.is_end ≡ is_end
  pub run : HasRun (run_in order words seen given) words.ticks seen.kept_after seen.results_after seen.link_after ended
  pub fit : seen.keeper_tells → Fits (summary seen.kept_before)

-- the clock gave this moment, last of all
abbrev pub IsTooLate : Observed → ℕ → Type 0
IsTooLate seen moment = (LAST_MOMENT < moment) × ((readings : List ℕ) × seen.has_read (readings ++ moment ∷ []))

-- The causes of a session's refusals. Each behind the configuration carries that it was accepted, and each behind the kept list that a session may go on
-- from that. Where none may, the list stays as it is.
abbrev pub causes_of : Order → ReplayWords → Observed → Causes
causes_of order words seen =
    record no_causes {
      files = seen.files_failed;
      refused = IsRefusedFor seen.files_tell seen.file words.config;
      keeper = IsAccepted words seen × seen.keeper_failed;
      unfit = IsAccepted words seen × IsUnfit seen × (seen.keeper_tells → seen.kept_after ≡ seen.kept_before);
      moment = λ moment. IsAccepted words seen × IsFit seen × IsTooLate seen moment;
      source = λ name. IsAccepted words seen × IsFit seen × HasFailed words.sources seen name;
      shrank = λ name kept found. IsAccepted words seen × IsFit seen × HasShrunk words.sources seen name kept found;
      numbers = (given : Given) × IsReplayGiven words seen given × IsFit seen × RanOutOfNumbers (run_in order words seen given) seen.kept_after;
      sink = IsAccepted words seen × IsFit seen × (seen.results_failed ⊎ seen.status_failed);
    }

-- The status stream has grown by what the session told: of each of its configurations with the packs that are left out, and of skipped lines; and
-- then by these.
abbrev pub IsToldBy : Order → ReplayWords → Observed → Given → List ℕ → List ℕ → Type 0
IsToldBy order words seen given left_out last =
    (between : List ℕ) × HasTold (fixed order words seen given) seen.kept_after left_out seen.status_before between × (seen.status_after ≡ between ++ last)

-- A session of these words, whose ticks are worked on in this order.
pub record IsReplay (order : Order) (words : ReplayWords) (seen : Observed) (status : Status) : Type 0 where
  pub done : IsDoneStatus status → (ran : Ran order words seen true) × (seen.sink_tells → IsToldBy order words seen ran.given ran.is.notes (final_line 0 ran.ended.numbers (link_faults seen)))
  pub spent : IsSpentStatus status → (ran : Ran order words seen false)
      × (seen.sink_tells → IsToldBy order words seen ran.given ran.is.notes (refusal_line TicksSpent ++ final_line 11 ran.ended.numbers (link_faults seen)) ⊎ seen.status_failed)
  pub cause : IsRefusal status → IsCaused (causes_of order words seen) status
  -- however it ends; where no session was begun, nothing is added and the clock isn't read
  pub kept : seen.keeper_tells → ((seen.kept_after ≡ seen.kept_before) × seen.has_read []) ⊎ ((given : Given) × IsReplayGiven words seen given × IsKept (run_in order words seen given) seen.kept_after)
  pub written : seen.sink_tells → ((seen.results_after ≡ seen.results_before) × seen.has_read []) ⊎ ((given : Given) × IsReplayGiven words seen given × IsWritten (fixed order words seen given) seen.kept_after seen.results_after)
