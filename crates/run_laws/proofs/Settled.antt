-- A run without a cause for a refusal is complete.
use Rattle.std.proofs.Common.{ℕ, List}
use Rattle.osq_program.specs.declared.status.Status.{Status}
use Rattle.osq_program.specs.declared.status.Status.TheVariants.{Ok as Done, Usage, FilesFault, ConfigRefused, KeeperFault, KeeperRefused, MomentTooLarge, SourceFault, SourceShrank, NumbersSpent, SinkFault, TicksSpent, QueryRefused, OutOfMemory}
use Rattle.osq_program.specs.Answers.{Causes, IsCaused, IsRefusal, IsSpentStatus, IsUsageStatus}
use Rattle.run_laws.specs.Completeness.{IsComplete}

-- there is no cause
pub record NoCause (c : Causes) : Type 0 where
  pub query : (place : ℕ) (kind : List ℕ) → ¬ c.query place kind
  pub files : ¬ c.files
  pub refused : (kind key : List ℕ) → ¬ c.refused kind key
  pub keeper : ¬ c.keeper
  pub unfit : ¬ c.unfit
  pub moment : (moment : ℕ) → ¬ c.moment moment
  pub source : (name : List ℕ) → ¬ c.source name
  pub shrank : (name : List ℕ) (kept found : ℕ) → ¬ c.shrank name kept found
  pub numbers : ¬ c.numbers
  pub sink : ¬ c.sink

pub settled : (c : Causes) (status : Status) → NoCause c → (IsRefusal status → IsCaused c status) → ¬ IsSpentStatus status → ¬ IsUsageStatus status → IsComplete status
settled c Done none cause spent usage = tt
settled c Usage none cause spent usage = usage tt
settled c FilesFault none cause spent usage = none.files (cause tt)
settled c (ConfigRefused kind key) none cause spent usage = none.refused kind.now key (cause tt)
settled c KeeperFault none cause spent usage = none.keeper (cause tt)
settled c KeeperRefused none cause spent usage = none.unfit (cause tt)
settled c (MomentTooLarge moment) none cause spent usage = none.moment moment (cause tt)
settled c (SourceFault name) none cause spent usage = none.source name (cause tt)
settled c (SourceShrank name kept found) none cause spent usage = none.shrank name kept found (cause tt)
settled c NumbersSpent none cause spent usage = none.numbers (cause tt)
settled c SinkFault none cause spent usage = none.sink (cause tt)
settled c TicksSpent none cause spent usage = spent tt
settled c (QueryRefused place kind) none cause spent usage = none.query place kind.now (cause tt)
settled c OutOfMemory none cause spent usage = tt
