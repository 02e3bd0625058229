-- What a keeper tells of an answer.
use Rattle.std.specs.Prelude.{Result, Ok, Err}
use Rattle.batch_keeper.specs.declared.keeper.KeeperError.{KeeperError}
use Rattle.batch_keeper.specs.declared.keeper.KeeperError.TheVariants as told
use Rattle.keeper_sqlite.specs.declared.stop.Stop.{Stop}
use Rattle.keeper_sqlite.specs.declared.stop.Stop.TheVariants.{Fault, NoMemory}

abbrev pub told_of : {T : Type 0} → Result T Stop → Result T KeeperError
told_of (Ok value) = Ok value
told_of (Err Fault) = Err told.Fault
told_of (Err NoMemory) = Err told.NoMemory
