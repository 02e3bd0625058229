-- What `selftest` does.
use Rattle.std.specs.Prelude.{◌≡◌, ◌⊎◌, ℕ, zero, suc, ◌+◌, ◌-◌, ◌/◌, ◌^◌, min, true, false, List, [], ◌∷◌, ◌++◌, length, take, codes, None, Some}
use Rattle.osq_value.specs.declared.source.SourceKind.TheVariants.{Changes}
use Rattle.osq_value.specs.declared.source.SourceName.{SourceName}
use Rattle.config_files.specs.Configurations.{IsConfigOf}
use Rattle.pack_rules.specs.declared.schedule.Mode.TheVariants.{Evented}
use Rattle.pack_rules.specs.declared.schedule.QueryKey.{QueryKey}
use Rattle.entry_model.specs.declared.entry.Entry.{Entry}
use Rattle.generated_changes.specs.Generated.{lines_of}
use Rattle.kept_report.specs.Counting.{numbers_in, numbers_line}
use Rattle.program_words.specs.declared.command.GenerateWords.{GenerateWords}
use Rattle.program_words.specs.declared.command.ReplayWords.{ReplayWords}
use Rattle.session_model.specs.Given.{Given}
use Rattle.session_model.specs.Orders.{in_turn}
use Rattle.replay_rounds.specs.declared.running.Ended.{Ended}
use Rattle.forward_rounds.specs.Forwarding.{View}
use Rattle.replay_rounds.specs.Fixed.{Fixed, Linked, Run}
use Rattle.replay_rounds.specs.Running.{HasRun, IsKept}
use Rattle.osq_program.specs.declared.status.Status.{Status}
use Rattle.osq_program.specs.declared.status.Status.TheVariants.{Ok as Done, SinkFault}
use Rattle.osq_program.specs.Answers.{Causes, IsCaused, IsDoneStatus, IsRefusal, IsSpentStatus, no_causes}
use Rattle.osq_program.specs.Observed.{Observed}
use Rattle.osq_program.specs.Setups.{host_in}

abbrev pub config_path : List ℕ
config_path = codes "self.conf"

abbrev pub document : List ℕ
document = codes "{\"schedule\":{\"all\":{\"query\":\"SELECT target_path FROM file_events\",\"interval\":60}},\"file_paths\":{\"etc\":[\"/etc/%%\"]}}"

abbrev pub self_key : QueryKey
self_key = record { name = codes "all"; text = codes "SELECT target_path FROM file_events"; mode = Evented }

-- the lines are the one source
abbrev pub self_sources : List SourceName
self_sources = (record { kind = Changes; name = codes "generated" }) ∷ []

-- a tick for each hundred lines, and two more
abbrev pub ticks_for : ℕ → ℕ
ticks_for count = count / 100 + 2

abbrev pub self_words : ℕ → ℕ → ReplayWords
self_words count start = record {
  config = config_path;
  host = codes "self";
  platform = codes "linux";
  agent = codes "5.10.0";
  sources = self_sources;
  store = None;
  start = Some start;
  step = 60;
  ticks = ticks_for count;
  records = 100;
  link = None;
}

-- so many readings of a clock that begins at this moment, and goes on by a minute at each
abbrev pub readings_from : ℕ → ℕ → List ℕ
readings_from moment zero = []
readings_from moment (suc count) = moment ∷ readings_from (min (moment + 60) (2 ^ 64 - 1)) count

-- The session is given this document, the host of its words, and these lines as its one source.
pub record IsSelfGiven (lines : List ℕ) (count start : ℕ) (given : Given) : Type 0 where
  pub notes : List ℕ
  pub configured : IsConfigOf given.documents given.config notes
  pub document_is : configured.document ≡ document
  pub host : given.host ≡ host_in (self_words count start)
  pub sources : given.sources ≡ (record { name = codes "generated"; kind = Changes; bytes = lines }) ∷ []
  pub records : given.records ≡ 100

-- through its link nothing is sent, and no answer waits
abbrev pub no_view : View
no_view = record { sent = []; waiting = []; faults = 0 }

abbrev pub self_link : Linked
self_link = record { forwards = false; tells = Unit {0}; before = no_view }

abbrev pub self_fixed : Given → List Entry → Fixed
self_fixed given before =
    record {
      order = in_turn;
      keeper_tells = Unit {0};
      sink_tells = ⊥;
      source_tells = Unit {0};
      given = given;
      start = before;
      written = [];
      link = self_link;
    }

-- the run of it over a clock that begins at this moment
abbrev pub self_run : Given → ℕ → List Entry → Run
self_run given start before = record { fixed = self_fixed given before; has_read = λ readings. readings ≡ readings_from start (length readings) }

-- From one list to another a session ran over these lines, which did all its ticks and read them all.
pub record HasRunOver (lines : List ℕ) (count start : ℕ) (before after : List Entry) : Type 0 where
  pub given : Given
  pub is : IsSelfGiven lines count start given
  pub ended : Ended
  pub linked : View
  pub whole : ended.is_end ≡ true
  pub run : HasRun (self_run given start before) (ticks_for count) after [] linked ended

-- From one list to another a session ran over these lines, however it ended, or none was begun.
abbrev pub HasGrownOver : (lines : List ℕ) (count start : ℕ) (before after : List Entry) → Type 0
HasGrownOver lines count start before after =
    (after ≡ before) ⊎ ((given : Given) × IsSelfGiven lines count start given × IsKept (self_run given start before) after)

-- the line tells the numbers of a list that such a session left, over the generated lines and behind an empty list
pub record HasTested (w : GenerateWords) (line : List ℕ) : Type 0 where
  pub kept : List Entry
  pub ran : HasRunOver (lines_of w.from w.count) w.count 1000 [] kept
  pub are : line ≡ numbers_line (numbers_in self_key kept)

abbrev pub causes_of : Observed → Causes
causes_of seen = record no_causes { sink = seen.results_failed }

-- what each answer leaves in the results: the line, at a fault of theirs a front part of it, and at want of memory nothing
abbrev pub SelfTestLeaves : GenerateWords → Observed → Status → Type 0
SelfTestLeaves w seen Done = (line : List ℕ) × HasTested w line × (seen.sink_tells → seen.results_after ≡ seen.results_before ++ line)
SelfTestLeaves w seen SinkFault = (line : List ℕ) × HasTested w line × (seen.sink_tells → (count : ℕ) × (seen.results_after ≡ seen.results_before ++ take count line))
SelfTestLeaves w seen _ = seen.sink_tells → seen.results_after ≡ seen.results_before

pub record IsSelfTest (w : GenerateWords) (seen : Observed) (status : Status) : Type 0 where
  pub leaves : SelfTestLeaves w seen status
  pub quiet : IsDoneStatus status → seen.sink_tells → seen.status_after ≡ seen.status_before
  pub unspent : IsSpentStatus status → ⊥
  pub cause : IsRefusal status → IsCaused (causes_of seen) status
