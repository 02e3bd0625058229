-- The same refusal, as a run answers it, and the numbers of a state.
use Rattle.std.specs.Prelude.{Option, None, Some}
use Rattle.entry_model.specs.declared.restored.Restored.{Restored}
use Rattle.batch_keeper.specs.declared.keeper.KeeperError.{KeeperError}
use Rattle.batch_keeper.specs.declared.keeper.KeeperError.TheVariants as keeping
use Rattle.batch_forwarder.specs.declared.sending.ForwardError.{ForwardError}
use Rattle.batch_forwarder.specs.declared.sending.ForwardError.TheVariants as forwarding
use Rattle.session_state.specs.Kept.{Kept}
use Rattle.daemon_rounds.specs.declared.error.FinishError.{FinishError}
use Rattle.daemon_rounds.specs.declared.error.FinishError.TheVariants as finish
use Rattle.daemon_rounds.specs.declared.error.OpenError.{OpenError}
use Rattle.daemon_rounds.specs.declared.error.OpenError.TheVariants as opening
use Rattle.daemon_rounds.specs.declared.error.TakeError.{TakeError}
use Rattle.daemon_rounds.specs.declared.error.TakeError.TheVariants as taking
use Rattle.replay_rounds.specs.declared.loading.LoadError.{LoadError}
use Rattle.replay_rounds.specs.declared.loading.LoadError.TheVariants as loading
use Rattle.replay_rounds.specs.declared.noting.NoteError.{NoteError}
use Rattle.replay_rounds.specs.declared.noting.NoteError.TheVariants as noting
use Rattle.replay_rounds.specs.declared.refused.Numbers.{Numbers}
use Rattle.replay_rounds.specs.declared.refused.RunError.{RunError}
use Rattle.replay_rounds.specs.declared.refused.RunError.TheVariants as run

-- of values that aren't loaded
abbrev pub unloaded_by : LoadError → RunError
unloaded_by loading.KeeperFault = run.KeeperFault
unloaded_by (loading.KeeperRefused kept) = run.KeeperRefused
unloaded_by loading.NoMemory = run.NoMemory

abbrev pub unloaded_numbers : LoadError → Option Numbers
unloaded_numbers loading.KeeperFault = None
unloaded_numbers (loading.KeeperRefused kept) = Some kept
unloaded_numbers loading.NoMemory = None

-- of a session that isn't open
abbrev pub unopened_by : OpenError → RunError
unopened_by (opening.MomentTooLarge moment) = run.MomentTooLarge moment
unopened_by (opening.SourceFault place) = run.SourceFault place
unopened_by (opening.SourceShrank place kept found) = run.SourceShrank place kept found
unopened_by opening.NumbersSpent = run.NumbersSpent
unopened_by opening.NoMemory = run.NoMemory

-- of lines that aren't written
abbrev pub unnoted_by : NoteError → RunError
unnoted_by noting.SinkFault = run.SinkFault
unnoted_by noting.NoMemory = run.NoMemory

-- of a tick that isn't filled
abbrev pub unfilled_by : TakeError → RunError
unfilled_by (taking.SourceFault place) = run.SourceFault place
unfilled_by taking.NumbersSpent = run.NumbersSpent
unfilled_by taking.NoMemory = run.NoMemory

-- of a tick that isn't finished
abbrev pub unfinished_by : FinishError → RunError
unfinished_by finish.NumbersSpent = run.NumbersSpent
unfinished_by finish.KeeperFault = run.KeeperFault
unfinished_by finish.SinkFault = run.SinkFault
unfinished_by finish.NoMemory = run.NoMemory

-- of a session that doesn't forward
abbrev pub unforwarded_by : ForwardError → RunError
unforwarded_by forwarding.KeeperFault = run.KeeperFault
unforwarded_by forwarding.NoMemory = run.NoMemory

-- of what isn't sealed behind the last tick
abbrev pub unsealed_by : KeeperError → RunError
unsealed_by keeping.Fault = run.KeeperFault
unsealed_by keeping.NoMemory = run.NoMemory

-- the numbers of the values of a list
abbrev pub numbers_in : Restored → Numbers
numbers_in restored = record { events = restored.last; batches = restored.batches; acknowledged = restored.acked }

-- the numbers of a state
abbrev pub numbers_of : Kept → Numbers
numbers_of s = record { events = s.image.last; batches = s.counts.batches; acknowledged = s.counts.acked }

-- the numbers of the kept list behind a tick that was refused: where only its lines could not be written, it is sealed
abbrev pub tick_numbers : RunError → Numbers → Kept → Numbers
tick_numbers run.SinkFault sealed state = numbers_of state
tick_numbers error sealed state = sealed

-- the same of a tick that isn't finished
abbrev pub unfinished_numbers : FinishError → Kept → Numbers → Numbers
unfinished_numbers finish.NumbersSpent state sealed = sealed
unfinished_numbers finish.KeeperFault state sealed = sealed
unfinished_numbers finish.SinkFault state sealed = numbers_of state
unfinished_numbers finish.NoMemory state sealed = sealed
