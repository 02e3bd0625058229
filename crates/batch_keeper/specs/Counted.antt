-- The calls on a keeper in memory.
use Rattle.batch_keeper.specs.declared.keeper.MemoryKeeper.{MemoryKeeper}
use Rattle.batch_keeper.specs.Calling.{Calls}

abbrev pub calls_of : MemoryKeeper → Calls
calls_of keeper = record { fails = keeper.failures.fails; made = keeper.failures.calls; is_whole = keeper.is_whole }
