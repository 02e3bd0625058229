-- The same refusal, as the caller answers it.
use Rattle.daemon_rounds.specs.declared.error.FinishError.{FinishError}
use Rattle.daemon_rounds.specs.declared.error.FinishError.TheVariants as finish
use Rattle.daemon_rounds.specs.declared.error.OpenError.{OpenError}
use Rattle.daemon_rounds.specs.declared.error.OpenError.TheVariants as opening
use Rattle.daemon_rounds.specs.declared.error.StartError.{StartError}
use Rattle.daemon_rounds.specs.declared.error.StartError.TheVariants as start
use Rattle.daemon_rounds.specs.declared.error.TakeError.{TakeError}
use Rattle.daemon_rounds.specs.declared.error.TakeError.TheVariants as taking
use Rattle.daemon_rounds.specs.declared.sealing.SealError.{SealError}
use Rattle.daemon_rounds.specs.declared.sealing.SealError.TheVariants as seal

-- of a seal that failed
abbrev pub unsealed_by : SealError → FinishError
unsealed_by seal.KeeperFault = finish.KeeperFault
unsealed_by seal.SinkFault = finish.SinkFault
unsealed_by seal.NoMemory = finish.NoMemory

-- of sources that aren't started
abbrev pub unstarted_by : StartError → OpenError
unstarted_by (start.SourceFault place) = opening.SourceFault place
unstarted_by (start.SourceShrank place kept found) = opening.SourceShrank place kept found
unstarted_by start.NoMemory = opening.NoMemory

-- of a round that isn't done
abbrev pub untaken_by : TakeError → OpenError
untaken_by (taking.SourceFault place) = opening.SourceFault place
untaken_by taking.NumbersSpent = opening.NumbersSpent
untaken_by taking.NoMemory = opening.NoMemory
