-- What holds of the words of every command.
use Rattle.std.specs.Prelude.{◌≡◌, ℕ, ◌≤◌, ◌<◌, ◌^◌, ◌≢◌, AllPairs, List, length, Option, IfSome}
use Rattle.program_words.specs.declared.command.CollectWords.{CollectWords}
use Rattle.program_words.specs.declared.command.CommandWords.{CommandWords}
use Rattle.program_words.specs.declared.command.CommandWords.TheVariants.{Replay, Daemon, Query, Check, Collect, Generate, SelfTest, Report, Fleet}
use Rattle.program_words.specs.declared.command.DaemonWords.{DaemonWords}
use Rattle.program_words.specs.declared.command.GenerateWords.{GenerateWords}
use Rattle.program_words.specs.declared.command.ReplayWords.{ReplayWords}
use Rattle.program_words.specs.declared.command.Paths.{Paths}
use Rattle.osq_value.specs.declared.source.SourceName.{SourceName}

-- a clock's first reading and step
pub record ClockBounds (start : Option ℕ) (step : ℕ) : Type 0 where
  pub start_in : IfSome start (λ moment. moment < 2 ^ 63)
  pub step_in : step ≤ 604800

-- there are at most a thousand sources, and no two have one name
pub record SourceBounds (sources : List SourceName) : Type 0 where
  pub few : length sources ≤ 1000
  pub own_paths : AllPairs (λ a b. a.name ≢ b.name) sources

-- a run over sources
pub record RunBounds (start : Option ℕ) (step ticks records : ℕ) (sources : List SourceName) : Type 0 where
  pub clock : ClockBounds start step
  pub some_ticks : 1 ≤ ticks
  pub ticks_in : ticks ≤ 1000000
  pub some_records : 1 ≤ records
  pub records_in : records ≤ 1000000
  pub sources_in : SourceBounds sources

pub record HostBounds (host : List ℕ) : Type 0 where
  pub some_bytes : 1 ≤ length host
  pub bytes_in : length host ≤ 255

abbrev pub SessionBounds : ReplayWords → Type 0
SessionBounds words = RunBounds words.start words.step words.ticks words.records words.sources × HostBounds words.host

-- a session by threads has at least one that answers, and few
pub record DaemonBounds (words : DaemonWords) : Type 0 where
  pub run_in : SessionBounds words.run
  pub some_workers : 1 ≤ words.workers
  pub workers_in : words.workers ≤ 16

-- a collector has one source
pub record CollectBounds (words : CollectWords) : Type 0 where
  pub one : length words.sources ≡ 1
  pub some_ticks : 1 ≤ words.ticks
  pub ticks_in : words.ticks ≤ 1000000

-- so many lines, behind a number
pub record GenerateBounds (words : GenerateWords) : Type 0 where
  pub from_in : words.from < 2 ^ 63
  pub some_lines : 1 ≤ words.count
  pub lines_in : words.count ≤ 1000000

unfoldable pub IsBounded : CommandWords → Type 0
IsBounded (Replay words) = SessionBounds words
IsBounded (Daemon words) = DaemonBounds words
IsBounded (Query words) = RunBounds words.start words.step words.ticks words.records words.sources
IsBounded (Check words) = HostBounds words.host
IsBounded (Collect words) = CollectBounds words
IsBounded (Generate words) = GenerateBounds words
IsBounded (SelfTest words) = GenerateBounds words
IsBounded (Report words) = Unit {0}
IsBounded (Fleet words) = HostBounds words.host

unfoldable pub ArePathsBounded : Paths → Type 0
ArePathsBounded paths = ClockBounds paths.start paths.step × SourceBounds paths.sources
