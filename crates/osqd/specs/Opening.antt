-- What is opened for the words of a command.
use Rattle.std.specs.Prelude.{ℕ, List, Option, None}
use Rattle.std.specs.Option.{option_map, option_map_or}
use Rattle.osq_outside.specs.declared.clock.StepClock.{StepClock}
use Rattle.osq_outside.specs.declared.sink.FileSink.{FileSink}
use Rattle.osq_outside.specs.declared.source.FileSource.{FileSource}
use Rattle.file_link.specs.declared.link.FileLink.{FileLink}
use Rattle.program_words.specs.declared.command.Paths.{Paths}
use Rattle.program_words.specs.Commands.{paths_of, unsourced}
use Rattle.osq_program.specs.declared.outside.Outside.{Outside}
use Rattle.osqd.specs.declared.Reached.{Reached}
use Rattle.osqd.specs.declared.streams.Input.{Input}
use Rattle.osqd.specs.declared.streams.Output.{Output}
use Rattle.osqd.specs.declared.streams.Output.TheVariants.{Nowhere, Results, Status}

-- what the words name; those of no command name nothing
abbrev pub named_by : List (List ℕ) → Paths
named_by words = option_map_or (λ (paths : Paths). paths) (paths_of words) (unsourced None)

-- the clock that is named, where one is; else the machine's is read
abbrev pub clock_by : Paths → Option StepClock
clock_by paths = option_map (λ (next : ℕ). record { next = next; step = paths.step }) paths.start

-- nothing keeps what is written
abbrev pub IsNowhere : Output → Type 0
IsNowhere Nowhere = Unit {0}
IsNowhere output = ⊥

-- what is written goes to standard output
abbrev pub IsResults : Output → Type 0
IsResults (Results stream) = Unit {0}
IsResults output = ⊥

-- what is written goes to standard error
abbrev pub IsStatus : Output → Type 0
IsStatus (Status stream) = Unit {0}
IsStatus output = ⊥

-- what was reached, with the files, the clock and the keeper of the run
abbrev pub outside_of : {F C K : Type 0} → Reached → F → C → K → Outside (FileSource Input) (FileSink Output) F C K (FileLink (FileSink Output) (FileSource Input))
outside_of reached files clock keeper = record {
  sources = reached.sources;
  results = reached.results;
  status = reached.status;
  ledger = reached.ledger;
  files = files;
  clock = clock;
  keeper = keeper;
  link = reached.link;
}
