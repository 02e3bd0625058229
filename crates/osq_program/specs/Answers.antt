-- What a run answers, and why.
use Rattle.std.specs.Prelude.{ℕ, List}
use Rattle.osq_program.specs.declared.status.Status.{Status}
use Rattle.osq_program.specs.declared.status.Status.TheVariants.{Ok as Done, Usage, FilesFault, ConfigRefused, KeeperFault, KeeperRefused, MomentTooLarge, SourceFault, SourceShrank, NumbersSpent, SinkFault, TicksSpent, QueryRefused, OutOfMemory}

-- the number that the process ends with
abbrev pub status_number : Status → ℕ
status_number Done = 0
status_number (ConfigRefused kind key) = 2
status_number FilesFault = 3
status_number KeeperFault = 4
status_number KeeperRefused = 5
status_number (SourceShrank source kept found) = 6
status_number (SourceFault source) = 7
status_number SinkFault = 8
status_number (MomentTooLarge moment) = 9
status_number NumbersSpent = 10
status_number TicksSpent = 11
status_number (QueryRefused place kind) = 12
status_number OutOfMemory = 20
status_number Usage = 64

abbrev pub IsDoneStatus : Status → Type 0
IsDoneStatus Done = Unit {0}
IsDoneStatus status = ⊥

abbrev pub IsSpentStatus : Status → Type 0
IsSpentStatus TicksSpent = Unit {0}
IsSpentStatus status = ⊥

abbrev pub IsUsageStatus : Status → Type 0
IsUsageStatus Usage = Unit {0}
IsUsageStatus status = ⊥

-- what may stand behind each refusal
pub record Causes : Type 1 where
  pub query : ℕ → List ℕ → Type 0  -- a text that is no query, by a fault at this place and of this kind
  pub files : Type 0  -- a fault of the files
  pub refused : List ℕ → List ℕ → Type 0  -- a configuration that is refused by a fault of this kind at this key
  pub keeper : Type 0  -- a fault of the keeper
  pub unfit : Type 0  -- a kept list from which no session may go on
  pub moment : ℕ → Type 0  -- this moment of the clock
  pub source : List ℕ → Type 0  -- a fault of the source of this name
  pub shrank : List ℕ → ℕ → ℕ → Type 0  -- that source, of which so many bytes are kept and only so many were found
  pub numbers : Type 0  -- numbers that have no next one
  pub sink : Type 0  -- a fault of a sink

abbrev pub no_causes : Causes
no_causes = record {
  query = λ place kind. ⊥;
  files = ⊥;
  refused = λ kind key. ⊥;
  keeper = ⊥;
  unfit = ⊥;
  moment = λ moment. ⊥;
  source = λ name. ⊥;
  shrank = λ name kept found. ⊥;
  numbers = ⊥;
  sink = ⊥;
}

-- the answer is a refusal with its cause; want of memory needs none
abbrev pub IsCaused : Causes → Status → Type 0
IsCaused c Done = ⊥
IsCaused c Usage = ⊥
IsCaused c FilesFault = c.files
IsCaused c (ConfigRefused kind key) = c.refused kind.now key
IsCaused c KeeperFault = c.keeper
IsCaused c KeeperRefused = c.unfit
IsCaused c (MomentTooLarge moment) = c.moment moment
IsCaused c (SourceFault name) = c.source name
IsCaused c (SourceShrank name kept found) = c.shrank name kept found
IsCaused c NumbersSpent = c.numbers
IsCaused c SinkFault = c.sink
IsCaused c TicksSpent = ⊥
IsCaused c (QueryRefused place kind) = c.query place kind.now
IsCaused c OutOfMemory = Unit {0}

-- the run ended before its session was done
abbrev pub IsRefusal : Status → Type 0
IsRefusal Done = ⊥
IsRefusal Usage = ⊥
IsRefusal TicksSpent = ⊥
IsRefusal status = Unit {0}
