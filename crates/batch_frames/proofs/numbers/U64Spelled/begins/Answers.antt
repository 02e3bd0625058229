use Rattle.batch_frames.proofs.Begins.{begins_decimal}
use Rattle.batch_frames.proofs.numbers.U64Spelled.begins.Goals as goal

pub returns : goal.returns
returns c = begins_decimal
