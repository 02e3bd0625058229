-- The same refusal, as the question answers it.
use Rattle.daemon_rounds.specs.declared.error.StartError.{StartError}
use Rattle.daemon_rounds.specs.declared.error.StartError.TheVariants as start
use Rattle.daemon_rounds.specs.declared.error.TakeError.{TakeError}
use Rattle.daemon_rounds.specs.declared.error.TakeError.TheVariants as taking
use Rattle.replay_rounds.specs.declared.loading.LoadError.{LoadError}
use Rattle.replay_rounds.specs.declared.loading.LoadError.TheVariants as loading
use Rattle.query_rounds.specs.declared.error.AskError.{AskError}
use Rattle.query_rounds.specs.declared.error.AskError.TheVariants as ask

-- of values that aren't loaded
abbrev pub unloaded_by : LoadError → AskError
unloaded_by loading.KeeperFault = ask.KeeperFault
unloaded_by (loading.KeeperRefused kept) = ask.KeeperRefused
unloaded_by loading.NoMemory = ask.NoMemory

-- of sources that aren't started
abbrev pub unstarted_by : StartError → AskError
unstarted_by (start.SourceFault place) = ask.SourceFault place
unstarted_by (start.SourceShrank place kept found) = ask.SourceShrank place kept found
unstarted_by start.NoMemory = ask.NoMemory

-- of a round that isn't done
abbrev pub untaken_by : TakeError → AskError
untaken_by (taking.SourceFault place) = ask.SourceFault place
untaken_by taking.NumbersSpent = ask.NumbersSpent
untaken_by taking.NoMemory = ask.NoMemory

-- the list was loaded, and a session may go on from it
abbrev pub IsBehindLoading : AskError → Type 0
IsBehindLoading ask.KeeperFault = ⊥
IsBehindLoading ask.KeeperRefused = ⊥
IsBehindLoading ask.NoMemory = ⊥
IsBehindLoading error = Unit {0}
